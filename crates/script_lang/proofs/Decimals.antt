-- A number is spelled in one way: as it is printed.
use Rattle.std.proofs.Common.{rules, ◌≡◌, ℕ, zero, suc, ◌<◌, ◌≤◌, ◌^◌, ◌==◌, ◌&&◌, ◌||◌, not, Bool, true, false, if◌then◌else◌, nat_le, List, [], ◌∷◌, length, get_or, Some, None, refl, ap, sym, ◌∙◌, arith, inl, inr}
use Rattle.std.proofs.lemmas.Bool.Decides.{nat_tests, eqb_tells}
use Rattle.std.proofs.lemmas.Fmt.{digits_decimal, digits_value-decimal, decimal_nonempty, decimal_digit, first_decimal, decimal-digits_value}
use Rattle.std.proofs.lemmas.Str.Parse.{IsNumeralModel, numerals_by_fold}
use Rattle.std.specs.Fmt.{decimal}
use Rattle.std.specs.List.{list_all}
use Rattle.script_lang.specs.Texts.{is_digit, digits_after, is_decimal, number_in}

-- the digits of these definitions and their value are those of std
own : IsNumeralModel (λ ds. list_all is_digit ds ≡ true) (digits_after 0)
own = numerals_by_fold _ (search rules) digits_after (search rules)

spelled : (ds : List ℕ) → list_all is_digit ds ≡ true → 0 < length ds → (get_or ds 0 0 ≡ 48 → length ds ≡ 1) → is_decimal ds ≡ true
spelled [] h some lead = absurd (omega arith)
spelled (b ∷ bs) h some lead = elim (eqb_tells b 48) [
  | inl at ↦
      let one : length (b ∷ bs) ≡ 1 = lead at.1 in
      let none : (length bs == 0) ≡ true = grind (arith, nat_tests) in
      rw h (rw at.0 (rw none refl))
  | inr other ↦ rw h (rw other.0 refl)
]

lead_of : (n : ℕ) → n < 2 ^ 64 → get_or (decimal n) 0 0 ≡ 48 → length (decimal n) ≡ 1
lead_of zero small e = ap length (decimal_digit 0 (omega arith))
lead_of (suc n) small e = let above = first_decimal (suc n) (omega arith) small in absurd (omega arith)

printed_spelled : (n : ℕ) → n < 2 ^ 64 → is_decimal (decimal n) ≡ true
printed_spelled n small = spelled (decimal n) (digits_decimal own n small) (decimal_nonempty n small) (lead_of n small)

within : (low high n : ℕ) → low ≤ n → n ≤ high → (nat_le low n && nat_le n high) ≡ true
within low high n l h = grind (arith, nat_tests)

-- a number that is printed is read back
pub number_again : (low high n : ℕ) → low ≤ n → n ≤ high → n < 2 ^ 64 → number_in low high (decimal n) ≡ Some n
unfolding number_in
number_again low high n l h small =
    let value : digits_after 0 (decimal n) ≡ n = digits_value-decimal own n small in
    rw (printed_spelled n small) (rw value (rw (within low high n l h) refl))

-- ---- the other way

in_range : (low high n m : ℕ) → (if nat_le low n && nat_le n high then Some n else None) ≡ Some m → (n ≡ m) × (n ≤ high)
in_range low high n m h = grind (arith, nat_tests)

guarded : (decimal : Bool) (low high n m : ℕ) → (if decimal && (nat_le low n && nat_le n high) then Some n else None) ≡ Some m → (decimal ≡ true) × (n ≡ m) × (n ≤ high)
guarded true low high n m h = let r = in_range low high n m h in (refl, r.0, r.1)
guarded false low high n m h = cc h

left : (a b : Bool) → (a && b) ≡ true → a ≡ true
left true b h = refl
left false b h = cc h

right : (a b : Bool) → (a && b) ≡ true → b ≡ true
right true b h = h
right false b h = cc h

digits_of : (text : List ℕ) → is_decimal text ≡ true → list_all is_digit text ≡ true
digits_of [] h = cc h
digits_of (b ∷ bs) h = left (list_all is_digit (b ∷ bs)) (not (b == 48) || length bs == 0) h

some_of : (text : List ℕ) → is_decimal text ≡ true → 0 < length text
some_of [] h = cc h
some_of (b ∷ bs) h = omega arith

lead_in : (text : List ℕ) → is_decimal text ≡ true → get_or text 0 0 ≡ 48 → length text ≡ 1
lead_in [] h e = cc h
lead_in (b ∷ bs) h e =
    let last : (not (b == 48) || length bs == 0) ≡ true = right (list_all is_digit (b ∷ bs)) (not (b == 48) || length bs == 0) h in
    let none : (length bs == 0) ≡ true = rw e at last in
    grind (arith, nat_tests)

-- what is read as a number is its decimal digits
pub only_decimal : (low high n : ℕ) (text : List ℕ) → high < 2 ^ 64 → number_in low high text ≡ Some n → text ≡ decimal n
unfolding number_in
only_decimal low high n text small h =
    let g = guarded (is_decimal text) low high (digits_after 0 text) n h in
    let fits : digits_after 0 text < 2 ^ 64 = omega (arith, g.2) in
    sym (decimal-digits_value own text (digits_of text g.0) (some_of text g.0) (lead_in text g.0) fits) ∙ ap decimal g.1
