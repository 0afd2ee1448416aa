-- Lists with one thing more, or with another one in a place.
use Rattle.std.proofs.Common.{arith, ◌≡◌, ◌≢◌, ◌⊎◌, inl, inr, ℕ, zero, suc, ◌+◌, ◌<◌, List, [], ◌∷◌, ◌++◌, length, take, map, slice_get, slice_set, Some, refl, ap, add-one}

pub get_push : {X : Type 0} (xs : List X) (y : X) (k : ℕ) (x : X) → slice_get (xs ++ y ∷ []) k ≡ Some x → ((k < length xs) × (slice_get xs k ≡ Some x)) ⊎ ((k ≡ length xs) × (x ≡ y))
get_push [] y zero x h = inr (refl, cc)
get_push [] y (suc k) x h = cc
get_push (z ∷ xs) y zero x h = inl (omega arith, h)
get_push (z ∷ xs) y (suc k) x h = elim (get_push xs y k x h) [ inl a ↦ inl (omega (arith, a.0), a.1) | inr b ↦ inr (ap suc b.0, b.1) ]

pub set_get : {X : Type 0} (xs : List X) (i : ℕ) (y : X) (k : ℕ) (x : X) → slice_get (slice_set xs i y) k ≡ Some x → ((k ≡ i) × (x ≡ y)) ⊎ ((k ≢ i) × (slice_get xs k ≡ Some x))
set_get [] i y k x h = cc
set_get (z ∷ xs) zero y zero x h = inl (refl, cc)
set_get (z ∷ xs) zero y (suc k) x h = inr (λ e. cc, h)
set_get (z ∷ xs) (suc i) y zero x h = inr (λ e. cc, h)
set_get (z ∷ xs) (suc i) y (suc k) x h = elim (set_get xs i y k x h) [ inl a ↦ inl (ap suc a.0, a.1) | inr b ↦ inr (λ e. b.0 (omega (arith, e)), b.1) ]

take_push_suc : {X : Type 0} (xs : List X) (n : ℕ) (x : X) → slice_get xs n ≡ Some x → take (suc n) xs ≡ take n xs ++ x ∷ []
take_push_suc [] n x h = cc
take_push_suc (z ∷ xs) zero x h = let same : z ≡ x = cc in ap (λ v. v ∷ []) same
take_push_suc (z ∷ xs) (suc n) x h = ap (λ l. z ∷ l) (take_push_suc xs n x h)

pub take_push : {X : Type 0} (xs : List X) (n : ℕ) (x : X) → slice_get xs n ≡ Some x → take (n + 1) xs ≡ take n xs ++ x ∷ []
take_push xs n x h = rw add-one (take_push_suc xs n x h)

pub map_push : {X Y : Type 0} (f : X → Y) (xs : List X) (x : X) → map f (xs ++ x ∷ []) ≡ map f xs ++ f x ∷ []
map_push f [] x = refl
map_push f (z ∷ xs) x = ap (λ l. f z ∷ l) (map_push f xs x)

pub set_length : {X : Type 0} (xs : List X) (i : ℕ) (y : X) → length (slice_set xs i y) ≡ length xs
set_length [] i y = refl
set_length (z ∷ xs) zero y = refl
set_length (z ∷ xs) (suc i) y = ap suc (set_length xs i y)

-- what stands in equal options is equal
pub some_is : {X : Type 0} {x y : X} → Some x ≡ Some y → x ≡ y
some_is h = cc
