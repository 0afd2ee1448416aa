-- Numbers that words spell.
use Rattle.std.proofs.Common.{arith, rules, ◌≡◌, ◌<◌, ◌≤◌, ◌^◌, ℕ, ◌⊎◌, ◌==◌, ◌||◌, List, [], ◌∷◌, length, not, true, false, Some, None, Result, Ok, Err, refl, inl, inr}
use Rattle.std.proofs.lemmas.Bool.{and_parts, cases_lt}
use Rattle.std.proofs.lemmas.Bool.Decides.{nat_tests}
use Rattle.std.proofs.lemmas.Str.Parse.{IsNumeralModel, numerals_by_fold, parse_digits}
use Rattle.std.specs.List.{list_all}
use Rattle.std.specs.Result.{OkIff, result_ok}
use Rattle.std.specs.Str.Parse.{ParsesUnsigned}
use Rattle.script_lang.specs.Texts.{digits_after, is_decimal, is_digit, number_in}

own : IsNumeralModel (λ ds. list_all is_digit ds ≡ true) (digits_after 0)
own = numerals_by_fold _ (search rules) digits_after (search rules)

-- a number is spelled by digits
digits : (bs : List ℕ) → is_decimal bs ≡ true → list_all is_digit bs ≡ true
digits [] e = absurd (cc e)
digits (b ∷ bs) e = (and_parts (list_all is_digit (b ∷ bs)) (not (b == 48) || length bs == 0) e).0

-- what is parsed is the number that it spells, if that has at most 64 bits
pub parsed : {E : Type 0} (bs : List ℕ) (r : Result ℕ E) → ParsesUnsigned 64 10 bs r → is_decimal bs ≡ true → OkIff r ((0 < length bs) × (digits_after 0 bs < 2 ^ 64)) (digits_after 0 bs)
parsed bs r h e = parse_digits own 64 bs r h (digits bs e)

some_digit : (bs : List ℕ) → is_decimal bs ≡ true → 0 < length bs
some_digit [] e = absurd (cc e)
some_digit (b ∷ bs) e = omega arith

-- other words are no numbers
pub no_number : (low high : ℕ) (bs : List ℕ) → is_decimal bs ≡ false → number_in low high bs ≡ None
unfolding number_in
no_number low high bs e = rw e refl

-- a number in the range
pub in_range : (low high n : ℕ) (bs : List ℕ) → is_decimal bs ≡ true → n ≡ digits_after 0 bs → low ≤ n → n ≤ high → number_in low high bs ≡ Some n
unfolding number_in
in_range low high n bs e d l h = rw (e, ← d) (grind (arith, nat_tests))

-- .. and outside of it
pub below_range : (low high n : ℕ) (bs : List ℕ) → n ≡ digits_after 0 bs → n < low → number_in low high bs ≡ None
unfolding number_in
below_range low high n bs d l = rw (← d) (grind (arith, nat_tests))

pub above_range : (low high n : ℕ) (bs : List ℕ) → n ≡ digits_after 0 bs → high < n → number_in low high bs ≡ None
unfolding number_in
above_range low high n bs d h = rw (← d) (grind (arith, nat_tests))

-- a number of more than 64 bits
pub too_great : (low high : ℕ) (bs : List ℕ) → is_decimal bs ≡ true → high < 2 ^ 64 → (((0 < length bs) × (digits_after 0 bs < 2 ^ 64)) → ⊥) → number_in low high bs ≡ None
too_great low high bs e h n = by_order (cases_lt (digits_after 0 bs) (2 ^ 64))
  where
    by_order : (digits_after 0 bs < 2 ^ 64) ⊎ (2 ^ 64 ≤ digits_after 0 bs) → number_in low high bs ≡ None
    by_order (inl l) = absurd (n (some_digit bs e, l))
    by_order (inr g) = above_range low high (digits_after 0 bs) bs refl (omega (arith, g, h))

-- ---- what is parsed

-- nothing, so it is no number of 64 bits
pub not_parsed : {E : Type 0} (low high : ℕ) (bs : List ℕ) (r : Result ℕ E) → ParsesUnsigned 64 10 bs r → is_decimal bs ≡ true → high < 2 ^ 64 → result_ok r ≡ None → number_in low high bs ≡ None
not_parsed {E} low high bs r h e l o = by_result r (parsed bs r h e) o
  where
    by_result : (x : Result ℕ E) → OkIff x ((0 < length bs) × (digits_after 0 bs < 2 ^ 64)) (digits_after 0 bs) → result_ok x ≡ None → number_in low high bs ≡ None
    by_result (Ok n) p q = absurd (cc q)
    by_result (Err x) p q = too_great low high bs e l p

-- a number, and it is the one that is spelled
pub is_parsed : {E : Type 0} (n : ℕ) (bs : List ℕ) (r : Result ℕ E) → ParsesUnsigned 64 10 bs r → is_decimal bs ≡ true → result_ok r ≡ Some n → n ≡ digits_after 0 bs
is_parsed {E} n bs r h e o = by_result r (parsed bs r h e) o
  where
    by_result : (x : Result ℕ E) → OkIff x ((0 < length bs) × (digits_after 0 bs < 2 ^ 64)) (digits_after 0 bs) → result_ok x ≡ Some n → n ≡ digits_after 0 bs
    by_result (Ok m) p q = cc (p.1, q)
    by_result (Err x) p q = absurd (cc q)
