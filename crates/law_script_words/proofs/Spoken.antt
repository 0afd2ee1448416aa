-- Words with spaces between them are read as those words, and are lines without an offence.
use Rattle.std.proofs.Common.{◌≡◌, ℕ, suc, ◌+◌, ◌≤◌, ◌<◌, ◌==◌, ◌&&◌, Bool, true, false, nat_lt, List, [], ◌∷◌, ◌++◌, length, get_or, None, refl, sym, ap, ◌∙◌, append_assoc, arith, one-add}
use Rattle.std.specs.List.{All, list_all, slice_split}
use Rattle.std.proofs.lemmas.Bool.{and_from}
use Rattle.std.proofs.lemmas.Bool.Decides.{nat_tests}
use Rattle.std.proofs.lemmas.List.{append-nil}
use Rattle.std.proofs.lemmas.List.Folds.{list_all-append}
use Rattle.std.proofs.lemmas.List.Splits.{slice_split_at, slice_split_none}
use Rattle.std.proofs.lemmas.List.Sums.{AllPass-from_list_all}
use Rattle.script_lang.specs.Lines.{bytes_offence, is_printable, printable_before}
use Rattle.script_lang.specs.Printed.{ended, line}
use Rattle.script_lang.specs.Scripts.{is_newline}
use Rattle.script_lang.specs.Words.{Word, is_space, placed, words_from}
use Rattle.law_script_words.specs.Spoken.{AreWords, IsWord, WordsAreFine, WordsAreRead, behind, columned, is_glyph, spoken}

-- ---- tests

-- the parts of a test of two
pub left : (a b : Bool) → (a && b) ≡ true → a ≡ true
left true b h = refl
left false b h = cc h

pub right : (a b : Bool) → (a && b) ≡ true → b ≡ true
right true b h = h
right false b h = cc h

-- what passes a test passes a weaker one
pub weaker : (p q : ℕ → Bool) → ((b : ℕ) → p b ≡ true → q b ≡ true) → (bs : List ℕ) → list_all p bs ≡ true → list_all q bs ≡ true
weaker p q imp [] h = refl
weaker p q imp (b ∷ bs) h = rw (imp b (left (p b) (list_all p bs) h), weaker p q imp bs (right (p b) (list_all p bs) h)) refl

-- bytes that make a word, by a test
abbrev pub is_word : List ℕ → Bool
is_word text = nat_lt 0 (length text) && list_all is_glyph text

tested : (n : ℕ) (g : Bool) → (nat_lt 0 n && g) ≡ true → (0 < n) × (g ≡ true)
tested n g h = grind (arith, nat_tests)

-- bytes that pass the test
pub word : (text : List ℕ) → is_word text ≡ true → IsWord text
word text h =
    let t = tested (length text) (list_all is_glyph text) h in
    record { some = t.0; glyphs = t.1 }

-- ---- bytes

glyph_no_space : (b : ℕ) → is_glyph b ≡ true → is_space b ≡ false
glyph_no_space b h = grind (arith, nat_tests)

pub glyph_printable : (b : ℕ) → is_glyph b ≡ true → is_printable b ≡ true
glyph_printable b h = grind (arith, nat_tests)

printable_no_newline : (b : ℕ) → is_printable b ≡ true → is_newline b ≡ false
printable_no_newline b h = grind (arith, nat_tests)

no_spaces : (text : List ℕ) → list_all is_glyph text ≡ true → All (λ b. is_space b ≡ false) text
no_spaces text h = λ k d l. glyph_no_space (get_or text k d) (AllPass-from_list_all is_glyph text h k d l)

-- printable bytes are on one line
pub no_newlines : (bs : List ℕ) → list_all is_printable bs ≡ true → All (λ b. is_newline b ≡ false) bs
no_newlines bs h = λ k d l. printable_no_newline (get_or bs k d) (AllPass-from_list_all is_printable bs h k d l)

word_printable : (text : List ℕ) → IsWord text → list_all is_printable text ≡ true
word_printable text is = weaker is_glyph is_printable glyph_printable text is.glyphs

behind_printable : (ws : List (List ℕ)) → AreWords ws → list_all is_printable (behind ws) ≡ true
behind_printable [] a = refl
behind_printable (w ∷ ws) a = list_all-append is_printable w (behind ws) ∙ and_from _ _ (word_printable w a.0) (behind_printable ws a.1)

-- words with spaces between them are printable
pub spoken_printable : (first : List ℕ) (ws : List (List ℕ)) → AreWords (first ∷ ws) → list_all is_printable (spoken first ws) ≡ true
spoken_printable first ws a = list_all-append is_printable first (behind ws) ∙ and_from _ _ (word_printable first a.0) (behind_printable ws a.1)

-- ---- pieces

split_words : (first : List ℕ) (ws : List (List ℕ)) → AreWords (first ∷ ws) → slice_split is_space (spoken first ws) ≡ first ∷ ws
split_words first [] a = ap (slice_split is_space) (append-nil first) ∙ slice_split_none is_space first (no_spaces first a.0.glyphs)
split_words first (w ∷ ws) a =
    slice_split_at is_space first 32 (w ++ behind ws) (no_spaces first a.0.glyphs) refl
    ∙ ap (λ (z : List (List ℕ)). first ∷ z) (split_words w ws a.1)

placed_words : (column : ℕ) (ws : List (List ℕ)) → AreWords ws → placed column ws ≡ columned column ws
placed_words column [] a = refl
placed_words column (w ∷ ws) a =
    let some : 0 < length w = a.0.some in
    let e : (length w == 0) ≡ false = grind (arith, nat_tests) in
    rw e (ap (λ (z : List Word). record { column = column; text = w } ∷ z) (placed_words (column + length w + 1) ws a.1))

-- words with spaces between them are read as those words
pub words_spoken : (column : ℕ) (first : List ℕ) (ws : List (List ℕ)) → AreWords (first ∷ ws) → words_from column (spoken first ws) ≡ columned column (first ∷ ws)
unfolding words_from
words_spoken column first ws a = ap (placed column) (split_words first ws a) ∙ placed_words column (first ∷ ws) a

-- ---- lines

all_before : (bs : List ℕ) → list_all is_printable bs ≡ true → printable_before bs ≡ length bs
all_before [] h = refl
all_before (b ∷ bs) h =
    let front : is_printable b ≡ true = left (is_printable b) (list_all is_printable bs) h in
    rw front (rw one-add (ap suc (all_before bs (right (is_printable b) (list_all is_printable bs) h))))

-- a short line of printable bytes has no offence in them
pub no_offence : (bs : List ℕ) → length bs ≤ 8400 → list_all is_printable bs ≡ true → bytes_offence bs ≡ None
unfolding bytes_offence
no_offence bs short printable =
    let long : nat_lt 8400 (length bs) ≡ false = grind (arith, nat_tests) in
    let all : printable_before bs ≡ length bs = all_before bs printable in
    let none : nat_lt (length bs) (length bs) ≡ false = grind (arith, nat_tests) in
    rw (long, all, none) refl

-- a line that is written is its words and a newline
ended_by : (ws : List (List ℕ)) → ended ws ≡ behind ws ++ 10 ∷ []
ended_by [] = refl
ended_by (w ∷ ws) = ap (λ (z : List ℕ). 32 ∷ z) (ap (λ (z : List ℕ). w ++ z) (ended_by ws) ∙ sym (append_assoc w (behind ws) (10 ∷ [])))

pub line_by : (first : List ℕ) (ws : List (List ℕ)) → line first ws ≡ spoken first ws ++ 10 ∷ []
line_by first ws = ap (λ (z : List ℕ). first ++ z) (ended_by ws) ∙ sym (append_assoc first (behind ws) (10 ∷ []))

-- ---- the law

pub words_read : WordsAreRead
words_read = words_spoken

pub words_fine : WordsAreFine
words_fine = λ first ws a short. no_offence (spoken first ws) short (spoken_printable first ws a)
