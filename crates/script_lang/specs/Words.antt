-- The words of a line with their columns, and readers of words: a value and the words after it, or the first offence.
use Rattle.std.specs.Prelude.{ℕ, ◌+◌, ◌-◌, ◌^◌, ◌≡◌, ◌==◌, drop, Bool, true, false, List, [], ◌∷◌, length, Option, Some, None, Result, Ok, Err, if◌then◌else◌, bytes_eq}
use Rattle.std.specs.List.{slice_split}
use Rattle.rdma_types.specs.declared.names.ObjName.{ObjName}
use Rattle.script_lang.specs.Texts.{number_in, object_of}
use Rattle.script_lang.specs.declared.lines.LineFault.{LineFault}
use Rattle.script_lang.specs.declared.lines.LineFault.TheVariants.{Bad, OutOfMemory}
use Rattle.script_lang.specs.declared.lines.LineWhy.{LineWhy}
use Rattle.script_lang.specs.declared.lines.LineWhy.TheVariants as why
use Rattle.script_lang.specs.declared.lines.Offence.{Offence}

-- ---- words

-- a word and its column in the line, from 1
pub record Word : Type 0 where
  pub column : ℕ
  pub text : List ℕ

-- parts words
abbrev pub is_space : ℕ → Bool
is_space b = b == 32

-- the pieces that have bytes, with their columns: a space stands between two pieces
abbrev pub placed : ℕ → List (List ℕ) → List Word
placed column [] = []
placed column (piece ∷ more) =
    if length piece == 0 then placed (column + 1) more
    else record { column = column; text = piece } ∷ placed (column + length piece + 1) more

-- the words of bytes, where the first byte has that column
unfoldable pub words_from : ℕ → List ℕ → List Word
words_from column bs = placed column (slice_split is_space bs)

-- the next word from a place of a line on is the number n, in decimal digits, and ends at that place
pub record IsNumberNext (line : List ℕ) (at n end : ℕ) : Type 0 where
  pub word : Word
  pub next : words_from (at + 1) (drop at line) ≡ word ∷ words_from (end + 1) (drop end line)
  pub number : number_in 0 (2 ^ 64 - 1) word.text ≡ Some n

-- .. or names this object
pub record IsObjectNext (line : List ℕ) (at : ℕ) (o : ObjName) (end : ℕ) : Type 0 where
  pub word : Word
  pub next : words_from (at + 1) (drop at line) ≡ word ∷ words_from (end + 1) (drop end line)
  pub object : object_of word.text ≡ Some o

-- words that are still to be read, and the column past the line's end
pub record Input : Type 0 where
  pub words : List Word
  pub past : ℕ

-- the words of a line
abbrev pub input_of : List ℕ → Input
input_of line = record { words = words_from 1 line; past = length line + 1 }

-- ---- readers

-- what is wrong, and where
abbrev pub offence : ℕ → LineWhy → Offence
offence column why = record { column = column; why = why }

-- a value and the words after it, or the first offence
abbrev pub Read : Type 0 → Type 0
Read A = Result (A × Input) Offence

-- a reader of words
abbrev pub Reads : Type 0 → Type 0
Reads A = Input → Read A

-- what follows a value
abbrev pub then_read : {A B : Type 0} → Read A → (A → Reads B) → Read B
then_read (Ok p) f = f p.0 p.1
then_read (Err e) f = Err e

-- one reader after another
infixl 10 ◌>>=◌
abbrev pub ◌>>=◌ : {A B : Type 0} → Reads A → (A → Reads B) → Reads B
r >>= f = λ i. then_read (r i) f

-- the value is known, and no word is read
abbrev pub done : {A : Type 0} → A → Reads A
done x = λ i. Ok (x, i)

-- the next word, or a word is missing
abbrev pub first_of_words : List Word → ℕ → Read Word
first_of_words [] past = Err (offence past why.Missing)
first_of_words (w ∷ ws) past = Ok (w, record { words = ws; past = past })

-- the next word
unfoldable pub a_word : Reads Word
a_word = λ i. first_of_words i.words i.past

-- the value of a word, or what is wrong with it
abbrev pub value_or : {A : Type 0} → Option A → Word → LineWhy → Reads A
value_or (Some x) w why = done x
value_or None w why = λ i. Err (offence w.column why)

-- the next word, by what it spells; another word is that offence
abbrev pub a_field : {A : Type 0} → (List ℕ → Option A) → LineWhy → Reads A
a_field spelled why = do
  w ← a_word
  value_or (spelled w.text) w why

-- the words without the first, where that is this text
abbrev pub without_first : List ℕ → List Word → ℕ → Read Bool
without_first text [] past = Ok (false, record { words = []; past = past })
without_first text (w ∷ ws) past = if bytes_eq w.text text then Ok (true, record { words = ws; past = past }) else Ok (false, record { words = w ∷ ws; past = past })

-- whether this word stands next; it is then passed
unfoldable pub an_option : List ℕ → Reads Bool
an_option text = λ i. without_first text i.words i.past

-- no words are left, or the first of them is too much
abbrev pub no_more : List Word → Input → Read (Unit {0})
no_more [] i = Ok (tt, i)
no_more (w ∷ ws) i = Err (offence w.column why.Extra)

-- the end of the line
unfoldable pub the_end : Reads (Unit {0})
the_end = λ i. no_more i.words i

-- ---- what code gives

-- what a reader of the code returned and left is what is read
abbrev pub Gives : {A : Type 0} → Result A Offence → Input → Read A → Type 0
Gives (Ok x) rest read = read ≡ Ok (x, rest)
Gives (Err e) rest read = read ≡ Err e

-- what a reader returned that fills a place
abbrev pub filled : {E T : Type 0} → Result (Unit {0}) E → T → Result T E
filled (Ok u) x = Ok x
filled (Err e) x = Err e

-- the same of a reader whose value others follow
abbrev pub GivesThen : {A B : Type 0} → Result A Offence → Input → (A → Reads B) → Read B → Type 0
GivesThen (Ok x) rest more read = read ≡ more x rest
GivesThen (Err e) rest more read = read ≡ Err e

-- the same where memory may run out
abbrev pub GivesOr : {A : Type 0} → Result A LineFault → Input → Read A → Type 0
GivesOr (Ok x) rest read = read ≡ Ok (x, rest)
GivesOr (Err (Bad column why)) rest read = read ≡ Err (offence column why)
GivesOr (Err OutOfMemory) rest read = Unit {0}
