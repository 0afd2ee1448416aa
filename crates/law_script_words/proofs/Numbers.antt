-- Printed numbers are words.
use Rattle.std.proofs.Common.{rules, ◌≡◌, ℕ, ◌≤◌, ◌<◌, ◌^◌, true, length, arith}
use Rattle.std.specs.Fmt.{decimal}
use Rattle.std.specs.List.{list_all}
use Rattle.std.proofs.lemmas.Bool.Decides.{nat_tests}
use Rattle.std.proofs.lemmas.Fmt.{digits_decimal, decimal_nonempty, length-decimal-le}
use Rattle.std.proofs.lemmas.Str.Parse.{IsNumeralModel, numerals_by_fold}
use Rattle.script_lang.specs.Texts.{digits_after, is_digit}
use Rattle.law_script_words.specs.Spoken.{IsWord, is_glyph}
use Rattle.law_script_words.proofs.Spoken.{weaker}

own : IsNumeralModel (λ ds. list_all is_digit ds ≡ true) (digits_after 0)
own = numerals_by_fold _ (search rules) digits_after (search rules)

-- a printed number has digits alone, and at most 20 of them
pub number_digits : (n : ℕ) → n < 2 ^ 64 → list_all is_digit (decimal n) ≡ true
number_digits n small = digits_decimal own n small

pub decimal_short : (n : ℕ) → n < 2 ^ 64 → length (decimal n) ≤ 20
decimal_short n small = length-decimal-le 20 n (omega arith) (omega arith) small

digit_glyph : (b : ℕ) → is_digit b ≡ true → is_glyph b ≡ true
digit_glyph b h = grind (arith, nat_tests)

pub decimal_glyphs : (n : ℕ) → n < 2 ^ 64 → list_all is_glyph (decimal n) ≡ true
decimal_glyphs n small = weaker is_digit is_glyph digit_glyph (decimal n) (number_digits n small)

-- it is a word
pub number_word : (n : ℕ) → n < 2 ^ 64 → IsWord (decimal n)
number_word n small = record { some = decimal_nonempty n small; glyphs = decimal_glyphs n small }
