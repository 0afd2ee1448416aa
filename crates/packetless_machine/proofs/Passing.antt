-- Offers of earlier requests, which are passed.
use Rattle.std.proofs.Common.{arith, ◌≡◌, ◌<◌, ◌≤◌, ◌+◌, ◌-◌, ℕ, zero, suc, List, [], ◌∷◌, ◌++◌, length, take, drop, get_or, Bool, true, false, refl, length-append}
use Rattle.std.specs.List.{All}
use Rattle.std.proofs.lemmas.Bool.Decides.{nat_tests}
use Rattle.std.proofs.lemmas.List.{take-append-le, take_rest}
use Rattle.std.proofs.lemmas.List.Elements.{All-nil, All-weaker, All-more, All-head, All-tail}
use Rattle.packetless_machine.specs.Machine.{Offered}
use Rattle.packetless_machine.specs.Tables.{place_where}
use Rattle.packetless_machine.specs.Reading.{is_offer_of}
use Rattle.packetless_machine.specs.Counted.{IsPassed}

-- at first none is passed
pub passed_at_start : (xs : List Offered) (below : ℕ) → IsPassed xs 0 below
passed_at_start xs below = record { within = omega arith; earlier = All-nil (λ o. o.request < below) }

-- passed offers stay passed as more are made
pub passed_kept : (xs ys : List Offered) (count below : ℕ) → IsPassed xs count below → IsPassed (xs ++ ys) count below
passed_kept xs ys count below passed = record {
  within = omega (arith, passed.within, length-append xs ys);
  earlier = rw (take-append-le count xs ys passed.within) passed.earlier;
}

-- .. and as later requests count as earlier ones
pub passed_later : (xs : List Offered) (count low below : ℕ) → IsPassed xs count low → low ≤ below → IsPassed xs count below
passed_later xs count low below passed more = record {
  within = passed.within;
  earlier = All-weaker (λ o. o.request < low) (λ o. o.request < below) (λ o h. omega (arith, h, more)) (take count xs) passed.earlier;
}

-- one more is passed
pub passed_one : (xs : List Offered) (count below : ℕ) (o : Offered) → count < length xs → o ≡ get_or xs count o → o.request < below → IsPassed xs count below → IsPassed xs (count + 1) below
passed_one xs count below o inside read earlier passed = record {
  within = omega (arith, inside);
  earlier = All-more (λ o. o.request < below) xs count o inside passed.earlier (rw read at earlier);
}

other_request : (i offset : ℕ) (bytes : List ℕ) (o : Offered) → o.request < i → is_offer_of i offset bytes o ≡ false
other_request i offset bytes o earlier = grind (arith, nat_tests)

-- the offers of a later request are behind those that are passed
from_passed : (xs : List Offered) (count below i offset : ℕ) (bytes : List ℕ) → count ≤ length xs → All (λ o. o.request < below) (take count xs) → below ≤ i → count + place_where (is_offer_of i offset bytes) (drop count xs) ≡ place_where (is_offer_of i offset bytes) xs
unfolding place_where
from_passed xs zero below i offset bytes within earlier later = omega arith
from_passed [] (suc count) below i offset bytes within earlier later = absurd (omega arith)
from_passed (x ∷ xs) (suc count) below i offset bytes within earlier later =
    let first : x.request < below = All-head (λ o. o.request < below) x (take count xs) earlier in
    let other : is_offer_of i offset bytes x ≡ false = other_request i offset bytes x (omega (arith, first, later)) in
    let rest = from_passed xs count below i offset bytes (omega (arith, within)) (All-tail (λ o. o.request < below) x (take count xs) earlier) later in
    rw other (omega (arith, rest))

-- .. in the slice of the others
pub behind_passed : (xs : List Offered) (count below i offset : ℕ) (bytes : List ℕ) → IsPassed xs count below → below ≤ i → count + place_where (is_offer_of i offset bytes) (take (length xs - count) (drop count xs)) ≡ place_where (is_offer_of i offset bytes) xs
behind_passed xs count below i offset bytes passed later = rw take_rest (from_passed xs count below i offset bytes passed.within passed.earlier later)

-- a place is not past the end
pub place_within : {A : Type 0} (test : A → Bool) (xs : List A) → place_where test xs ≤ length xs
unfolding place_where
place_within test [] = omega arith
place_within test (x ∷ xs) = by (test x) refl (place_within test xs)
  where
    by : (b : Bool) → test x ≡ b → place_where test xs ≤ length xs → place_where test (x ∷ xs) ≤ length (x ∷ xs)
    by true e ih = rw e (omega arith)
    by false e ih = rw e (omega arith)

pub ruleset passing = (passed_at_start, passed_later, passed_one)
