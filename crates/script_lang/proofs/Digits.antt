-- Numbers that digits spell.
use Rattle.std.proofs.Common.{◌≡◌, ℕ, zero, suc, ◌+◌, ◌-◌, ◌*◌, ◌<◌, ◌≤◌, ◌^◌, List, [], ◌∷◌, length, take, drop, get_or, nat_lt, Some, None, if◌then◌else◌, refl, sym, ap, arith, add-one, drop-cons}
use Rattle.std.proofs.Math.Dec.{lit≤}
use Rattle.std.proofs.Math.Nat.{pow-le-pow_right}
use Rattle.std.proofs.lemmas.Bool.Decides.{nat_tests}
use Rattle.std.proofs.lemmas.Grind.{pow_more}
use Rattle.std.proofs.lemmas.List.{drop_all}
use Rattle.script_lang.specs.Texts.{digits_after}

-- more digits never make a number less
pub grows : (n : ℕ) (bs : List ℕ) → n ≤ digits_after n bs
grows n [] = omega arith
grows n (b ∷ bs) = let g = grows (n * 10 + (b - 48)) bs in omega (arith, g)

-- one digit of those that are left
pub digit_passed : (n : ℕ) (word : List ℕ) (i : ℕ) → i < length word → digits_after (n * 10 + (get_or word i 0 - 48)) (drop (i + 1) word) ≡ digits_after n (drop i word)
digit_passed n word i h = rw add-one (sym (ap (digits_after n) (drop-cons word i 0 h)))

digit_after : (n : ℕ) (text : List ℕ) (k : ℕ) → k < length text → digits_after n (take (suc k) text) ≡ digits_after n (take k text) * 10 + (get_or text k 0 - 48)
digit_after n [] k h = absurd (omega arith)
digit_after n (b ∷ text) zero h = refl
digit_after n (b ∷ text) (suc k) h = digit_after (n * 10 + (b - 48)) text k (omega arith)

-- one more digit
pub digit_more : (n : ℕ) (text : List ℕ) (k : ℕ) → k < length text → digits_after n (take (k + 1) text) ≡ digits_after n (take k text) * 10 + (get_or text k 0 - 48)
digit_more n text k h = rw add-one (digit_after n text k h)

-- .. of a number of few digits
pub digit_fits : (n i d : ℕ) → n < 10 ^ i → d ≤ 9 → n * 10 + d < 10 ^ (i + 1)
digit_fits n i d h l = omega (arith, pow_more 10 i)

-- a number that is over a limit after some digits is over it after all
pub stays_over : (n limit all : ℕ) (word : List ℕ) (i : ℕ) → i < length word → limit ≤ n * 10 + (get_or word i 0 - 48) → digits_after n (drop i word) ≡ all → limit ≤ all
stays_over n limit all word i h over e =
    let g = grows (n * 10 + (get_or word i 0 - 48)) (drop (i + 1) word) in
    let p = digit_passed n word i h in
    omega (arith, g, p, e)

-- a number at the limit or over it is refused
pub refused_over : (m limit : ℕ) → limit ≤ m → (if nat_lt m limit then Some m else None) ≡ None
refused_over m limit h = grind (arith, nat_tests)

-- a number below the limit is told
pub told_below : (m limit : ℕ) → m < limit → (if nat_lt m limit then Some m else None) ≡ Some m
told_below m limit h = grind (arith, nat_tests)

-- after all digits the number stands
pub digits_done : (n : ℕ) (word : List ℕ) (i : ℕ) → length word ≤ i → digits_after n (drop i word) ≡ n
digits_done n word i h = ap (digits_after n) (drop_all i word h)

-- nineteen digits fit 64 bits
pub room_for_digit : (n i : ℕ) → n < 10 ^ i → i < 19 → n * 10 + 9 < 2 ^ 64
room_for_digit n i h few =
    let most : 10 ^ i ≤ 10 ^ 18 = pow-le-pow_right {n = 10} (lit≤ tt) {j = 18} (omega arith) in
    let small : n < 1000000000000000000 = omega arith in
    omega arith
