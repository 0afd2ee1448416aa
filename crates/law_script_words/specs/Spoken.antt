-- Words with spaces between them.
use Rattle.std.specs.Prelude.{◌≡◌, ℕ, ◌+◌, ◌≤◌, ◌<◌, ◌&&◌, Bool, true, nat_le, List, [], ◌∷◌, ◌++◌, length, None}
use Rattle.std.specs.List.{list_all}
use Rattle.script_lang.specs.Lines.{bytes_offence}
use Rattle.script_lang.specs.Words.{Word, words_from}

-- a byte that may stand in a word: printable, and no space
abbrev pub is_glyph : ℕ → Bool
is_glyph b = nat_le 33 b && nat_le b 126

-- bytes that make a word
pub record IsWord (text : List ℕ) : Type 0 where
  pub some : 0 < length text
  pub glyphs : list_all is_glyph text ≡ true

-- each of them does
abbrev pub AreWords : List (List ℕ) → Type 0
AreWords [] = Unit {0}
AreWords (w ∷ ws) = IsWord w × AreWords ws

-- each word after a space
abbrev pub behind : List (List ℕ) → List ℕ
behind [] = []
behind (w ∷ ws) = 32 ∷ (w ++ behind ws)

-- words with a space between
abbrev pub spoken : List ℕ → List (List ℕ) → List ℕ
spoken first ws = first ++ behind ws

-- words of which the first has that column
abbrev pub columned : ℕ → List (List ℕ) → List Word
columned column [] = []
columned column (w ∷ ws) = record { column = column; text = w } ∷ columned (column + length w + 1) ws

-- words with spaces between them are read as those words
abbrev pub WordsAreRead : Type 0
WordsAreRead = (column : ℕ) (first : List ℕ) (ws : List (List ℕ)) → AreWords (first ∷ ws) → words_from column (spoken first ws) ≡ columned column (first ∷ ws)

-- a line of words of at most 8,400 bytes has no offence in its bytes
abbrev pub WordsAreFine : Type 0
WordsAreFine = (first : List ℕ) (ws : List (List ℕ)) → AreWords (first ∷ ws) → length (spoken first ws) ≤ 8400 → bytes_offence (spoken first ws) ≡ None
