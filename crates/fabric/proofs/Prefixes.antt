-- How many elements pass a test from the front on.
use Rattle.std.proofs.Common.{◌≡◌, ℕ, zero, suc, ◌+◌, ◌-◌, ◌<◌, ◌≤◌, Bool, true, false, List, [], ◌∷◌, ◌++◌, length, get_or, set, drop, refl, arith, inl, inr}
use Rattle.std.proofs.lemmas.Bool.{cases_Bool}
use Rattle.std.proofs.lemmas.List.{drop_more, drop_all}
use Rattle.std.specs.List.{prefix_len}

-- no more than there are
pub prefix_within : {X : Type 0} (p : X → Bool) (xs : List X) → prefix_len p xs ≤ length xs
prefix_within p [] = omega arith
prefix_within p (x ∷ xs) = elim (cases_Bool (p x)) [
  | inl passes ↦ rw passes (omega (arith, prefix_within p xs))
  | inr stops ↦ rw stops (omega arith)
]

-- the count goes on behind a part of it
pub prefix_from : {X : Type 0} (p : X → Bool) (s : ℕ) (xs : List X) → s ≤ prefix_len p xs → s + prefix_len p (drop s xs) ≡ prefix_len p xs
prefix_from p zero xs h = omega arith
prefix_from p (suc s) [] h = absurd (omega arith)
prefix_from p (suc s) (x ∷ xs) h = elim (cases_Bool (p x)) [
  | inl passes ↦
      let more = rw passes at h in
      let rest = prefix_from p s xs (omega (arith, more)) in
      rw passes (omega (arith, rest))
  | inr stops ↦ let none = rw stops at h in absurd (omega (arith, none))
]

-- it does not fall where an element is made to pass
pub prefix-set_passing : {X : Type 0} (p : X → Bool) (xs : List X) (i : ℕ) (y : X) → p y ≡ true → prefix_len p xs ≤ prefix_len p (set xs i y)
prefix-set_passing p [] i y h = omega arith
prefix-set_passing p (x ∷ xs) zero y h = elim (cases_Bool (p x)) [
  | inl passes ↦ rw (passes, h) (omega arith)
  | inr stops ↦ rw (stops, h) (omega arith)
]
prefix-set_passing p (x ∷ xs) (suc i) y h = elim (cases_Bool (p x)) [
  | inl passes ↦ rw passes (omega (arith, prefix-set_passing p xs i y h))
  | inr stops ↦ rw stops (omega arith)
]

-- nor where elements come behind
pub prefix-append_more : {X : Type 0} (p : X → Bool) (xs ys : List X) → prefix_len p xs ≤ prefix_len p (xs ++ ys)
prefix-append_more p [] ys = omega arith
prefix-append_more p (x ∷ xs) ys = elim (cases_Bool (p x)) [
  | inl passes ↦ rw passes (omega (arith, prefix-append_more p xs ys))
  | inr stops ↦ rw stops (omega arith)
]

-- it falls by at most n where the first n elements go
pub prefix-drop_fewer : {X : Type 0} (p : X → Bool) (n : ℕ) (xs : List X) → prefix_len p xs - n ≤ prefix_len p (drop n xs)
prefix-drop_fewer p zero xs = omega arith
prefix-drop_fewer p (suc n) [] = omega arith
prefix-drop_fewer p (suc n) (x ∷ xs) = elim (cases_Bool (p x)) [
  | inl passes ↦ rw passes (omega (arith, prefix-drop_fewer p n xs))
  | inr stops ↦ rw stops (omega arith)
]

-- an element that passes counts
pub prefix_more : {X : Type 0} (p : X → Bool) (xs : List X) (i : ℕ) (x : X) → i < length xs → x ≡ get_or xs i x → p x ≡ true → prefix_len p (drop i xs) ≡ prefix_len p (drop (i + 1) xs) + 1
prefix_more p xs i x h e passes = rw (drop_more xs i x h, ← e, passes) (omega arith)

-- one that does not ends the count
pub prefix_stops : {X : Type 0} (p : X → Bool) (xs : List X) (i : ℕ) (x : X) → i < length xs → x ≡ get_or xs i x → p x ≡ false → prefix_len p (drop i xs) ≡ 0
prefix_stops p xs i x h e stops = rw (drop_more xs i x h, ← e, stops) refl

-- and so does the end
pub prefix_ends : {X : Type 0} (p : X → Bool) (xs : List X) (i : ℕ) → length xs ≤ i → prefix_len p (drop i xs) ≡ 0
prefix_ends p xs i h = rw (drop_all i xs h) refl
