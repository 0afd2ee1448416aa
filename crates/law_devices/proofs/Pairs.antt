-- Lists whose elements are each in a relation to those after them, where elements come and go.
use Rattle.std.proofs.Common.{arith, ◌≡◌, ◌⊎◌, ◌≤◌, ◌<◌, ◌+◌, ℕ, zero, suc, List, [], ◌∷◌, ◌++◌, map, length, drop, get_or, true, false, Bool, refl, sym, ap, ◌∙◌, inl, inr, subst, length-append}
use Rattle.std.specs.Prelude.{All, AllPairs, bytes_eq, if◌then◌else◌}
use Rattle.std.proofs.lemmas.Bool.{cases_lt}
use Rattle.std.proofs.lemmas.List.{get_or-drop, get_or_append_left, length-drop}
use Rattle.std.proofs.Math.Seq.{get_or-append_seam}
use Rattle.std.proofs.lemmas.List.Elements.{All-cons, All-get_or, All-head, All-tail}
use Rattle.rdma_types.specs.Lists.{without}

pub AllPairs-drop : {A : Type 0} (R : A → A → Type 0) (n : ℕ) (xs : List A) → AllPairs R xs → AllPairs R (drop n xs)
AllPairs-drop {A} R n xs h = λ (i : ℕ) (j : ℕ) (d : A) lt below.
    let within : n + j < length xs = omega (arith, length-drop n xs, below) in
    subst (λ x. R x (get_or (drop n xs) j d)) (sym (get_or-drop n xs i d)) (subst (R (get_or xs (n + i) d)) (sym (get_or-drop n xs j d)) (h (n + i) (n + j) d (omega (arith, lt)) within))

pub AllPairs-push : {A : Type 0} (R : A → A → Type 0) (xs : List A) (y : A) → AllPairs R xs → All (λ x. R x y) xs → AllPairs R (xs ++ y ∷ [])
AllPairs-push {A} R xs y h all = λ (i : ℕ) (j : ℕ) (d : A) lt below. by_place i j d lt (omega (arith, below, length-append xs (y ∷ []))) (cases_lt j (length xs))
  where
    by_place : (i j : ℕ) (d : A) → i < j → j ≤ length xs → (j < length xs) ⊎ (length xs ≤ j) → R (get_or (xs ++ y ∷ []) i d) (get_or (xs ++ y ∷ []) j d)
    by_place i j d lt below (inl l) = subst (λ x. R x (get_or (xs ++ y ∷ []) j d)) (sym (get_or_append_left xs (y ∷ []) d i (omega (arith, lt, l)))) (subst (R (get_or xs i d)) (sym (get_or_append_left xs (y ∷ []) d j l)) (h i j d lt l))
    by_place i j d lt below (inr g) =
        let last : j ≡ length xs = omega (arith, below, g) in
        subst (λ x. R x (get_or (xs ++ y ∷ []) j d)) (sym (get_or_append_left xs (y ∷ []) d i (omega (arith, lt, below))))
        (subst (λ k. R (get_or xs i d) (get_or (xs ++ y ∷ []) k d)) (sym last) (subst (R (get_or xs i d)) (sym (get_or-append_seam xs y [] d)) (all i d (omega (arith, lt, below)))))

pub AllPairs-tail : {A : Type 0} (R : A → A → Type 0) (x : A) (xs : List A) → AllPairs R (x ∷ xs) → AllPairs R xs
AllPairs-tail {A} R x xs h = λ (i : ℕ) (j : ℕ) (d : A) lt below. h (suc i) (suc j) d (omega (arith, lt)) (omega (arith, below))

pub AllPairs-first : {A : Type 0} (R : A → A → Type 0) (x : A) (xs : List A) → AllPairs R (x ∷ xs) → All (R x) xs
AllPairs-first {A} R x xs h = λ (j : ℕ) (d : A) below. h 0 (suc j) d (omega arith) (omega (arith, below))

pub AllPairs-cons : {A : Type 0} (R : A → A → Type 0) (x : A) (xs : List A) → All (R x) xs → AllPairs R xs → AllPairs R (x ∷ xs)
AllPairs-cons {A} R x xs all h = λ (i : ℕ) (j : ℕ) (d : A) lt below. by_place i j d lt below
  where
    by_place : (i j : ℕ) (d : A) → i < j → j < suc (length xs) → R (get_or (x ∷ xs) i d) (get_or (x ∷ xs) j d)
    by_place i zero d lt below = absurd (omega (arith, lt))
    by_place zero (suc j) d lt below = all j d (omega (arith, below))
    by_place (suc i) (suc j) d lt below = h i j d (omega (arith, lt)) (omega (arith, below))
