-- Short words, and a few of them with spaces between.
use Rattle.std.proofs.Common.{◌≡◌, ℕ, ◌*◌, ◌≤◌, ◌<◌, ◌^◌, ◌&&◌, Bool, true, nat_le, List, [], ◌∷◌, length, arith, length-append}
use Rattle.std.specs.Fmt.{decimal}
use Rattle.std.proofs.lemmas.Bool.Decides.{nat_tests}
use Rattle.law_script_words.specs.Spoken.{AreWords, IsWord, behind, spoken}
use Rattle.law_script_words.proofs.Numbers.{decimal_short}
use Rattle.law_script_words.proofs.Numbers as numbers
use Rattle.law_script_words.proofs.Spoken.{is_word, left, right}
use Rattle.law_script_words.proofs.Spoken as words

-- bytes that make a word of at most 24
pub record IsShortWord (text : List ℕ) : Type 0 where
  pub word : IsWord text
  pub short : length text ≤ 24

-- each of them does
abbrev pub AreShortWords : List (List ℕ) → Type 0
AreShortWords [] = Unit {0}
AreShortWords (w ∷ ws) = IsShortWord w × AreShortWords ws

-- they are words
pub are_words : (ws : List (List ℕ)) → AreShortWords ws → AreWords ws
are_words [] a = tt
are_words (w ∷ ws) a = (a.0.word, are_words ws a.1)

behind_short : (ws : List (List ℕ)) → AreShortWords ws → length (behind ws) ≤ 25 * length ws
behind_short [] a = omega arith
behind_short (w ∷ ws) a = omega (arith, length-append w (behind ws), a.0.short, behind_short ws a.1)

-- a few words with spaces between them are short
pub spoken_short : (first : List ℕ) (ws : List (List ℕ)) → AreShortWords (first ∷ ws) → length ws ≤ 300 → length (spoken first ws) ≤ 8400
spoken_short first ws a few = omega (arith, length-append first (behind ws), a.0.short, behind_short ws a.1)

-- ---- which are

-- bytes that make a short word, by a test
abbrev pub is_short_word : List ℕ → Bool
is_short_word text = is_word text && nat_le (length text) 24

tested : (n : ℕ) → nat_le n 24 ≡ true → n ≤ 24
tested n h = grind (arith, nat_tests)

-- bytes that pass the test
pub word : (text : List ℕ) → is_short_word text ≡ true → IsShortWord text
word text h = record {
  word = words.word text (left (is_word text) (nat_le (length text) 24) h);
  short = tested (length text) (right (is_word text) (nat_le (length text) 24) h);
}

-- a printed number is a short word
pub number_word : (n : ℕ) → n < 2 ^ 64 → IsShortWord (decimal n)
number_word n small = record { word = numbers.number_word n small; short = omega (arith, decimal_short n small) }
