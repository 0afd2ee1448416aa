-- Lists copied one after another: the front of a list, and what functions make of it.
use Rattle.std.proofs.Common.{◌≡◌, ℕ, zero, suc, ◌+◌, ◌<◌, ◌≤◌, List, [], ◌∷◌, ◌++◌, length, take, get_or, refl, ap, sym, ◌∙◌, subst, arith, add-one}
use Rattle.std.specs.Prelude.{Option, Some, None, All, IfSome, IsSome, map, option_map, slice_get}
use Rattle.std.proofs.lemmas.List.{take_all}
use Rattle.std.proofs.lemmas.Option.{get_or_from_slice_get, slice_get-get_or, slice_get_within}

taken_at : {X : Type 0} (xs : List X) (n : ℕ) (x : X) → slice_get xs n ≡ Some x → take n xs ++ x ∷ [] ≡ take (suc n) xs
taken_at [] n x e = absurd (cc)
taken_at (y ∷ ys) zero x e = let same : y ≡ x = cc in ap (λ z. z ∷ []) (sym same)
taken_at (y ∷ ys) (suc n) x e = ap (λ zs. y ∷ zs) (taken_at ys n x e)

-- one more thing of a list
pub taken_on : {X : Type 0} (xs : List X) (n : ℕ) (x : X) → slice_get xs n ≡ Some x → take n xs ++ x ∷ [] ≡ take (n + 1) xs
taken_on xs n x e = rw add-one (taken_at xs n x e)

each_at : {X Y Z N : Type 0} (f : N → Y → Z) (g : X → Y) (xs : List X) (i : ℕ) (z : Z) (n : N) → i < length xs → IfSome (slice_get xs i) (λ x. (m : N) → z ≡ f m (g x)) → map (f n) (map g (take i xs)) ++ z ∷ [] ≡ map (f n) (map g (take (suc i) xs))
each_at f g [] i z n l h = absurd (omega arith)
each_at f g (y ∷ ys) zero z n l h = ap (λ w. w ∷ []) (h n)
each_at f g (y ∷ ys) (suc i) z n l h = ap (λ ws. f n (g y) ∷ ws) (each_at f g ys i z n (omega arith) h)

-- what two functions, one after the other, make of one more thing, whatever the second is given besides
pub each_on : {X Y Z N : Type 0} (f : N → Y → Z) (g : X → Y) (xs : List X) (i : ℕ) (z : Z) (n : N) → i < length xs → IfSome (slice_get xs i) (λ x. (m : N) → z ≡ f m (g x)) → map (f n) (map g (take i xs)) ++ z ∷ [] ≡ map (f n) (map g (take (i + 1) xs))
each_on f g xs i z n l h = rw add-one (each_at f g xs i z n l h)

both_at : {X Y Z : Type 0} (f : Y → Z) (g : X → Y) (xs : List X) (i : ℕ) (z : Z) → i < length xs → IfSome (slice_get xs i) (λ x. z ≡ f (g x)) → map f (map g (take i xs)) ++ z ∷ [] ≡ map f (map g (take (suc i) xs))
both_at f g [] i z l h = absurd (omega arith)
both_at f g (y ∷ ys) zero z l h = ap (λ w. w ∷ []) h
both_at f g (y ∷ ys) (suc i) z l h = ap (λ ws. f (g y) ∷ ws) (both_at f g ys i z (omega arith) h)

-- .. where it is given nothing
pub both_on : {X Y Z : Type 0} (f : Y → Z) (g : X → Y) (xs : List X) (i : ℕ) (z : Z) → i < length xs → IfSome (slice_get xs i) (λ x. z ≡ f (g x)) → map f (map g (take i xs)) ++ z ∷ [] ≡ map f (map g (take (i + 1) xs))
both_on f g xs i z l h = rw add-one (both_at f g xs i z l h)

-- .. and the thing is known
pub both_of : {X Y Z : Type 0} (f : Y → Z) (g : X → Y) (xs : List X) (i : ℕ) (x : X) (z : Z) → slice_get xs i ≡ Some x → z ≡ f (g x) → map f (map g (take i xs)) ++ z ∷ [] ≡ map f (map g (take (i + 1) xs))
both_of f g xs i x z e h = both_on f g xs i z (slice_get_within xs i x e) (subst (λ o. IfSome o (λ y. z ≡ f (g y))) (sym e) h)

-- what holds of each thing of a list holds of the one at a place
pub at_place : {X : Type 0} (P : X → Type 0) (xs : List X) (i : ℕ) (x : X) → slice_get xs i ≡ Some x → All P xs → P x
at_place P xs i x e h = subst P (get_or_from_slice_get xs i x x e) (h i x (slice_get_within xs i x e))

-- a look-up below the length of a list finds something
pub is_there : {T X : Type 0} (f : T → X) (o : Option T) (xs : List X) (i n : ℕ) → option_map f o ≡ slice_get xs i → n ≡ length xs → i < n → IsSome o
is_there f (Some x) xs i n e l h = refl
is_there f None [] i n e l h = absurd (omega (arith, l, h))
is_there f None (x ∷ xs) i n e l h =
    let some : slice_get (x ∷ xs) i ≡ Some (get_or (x ∷ xs) i x) = slice_get-get_or (x ∷ xs) i x (subst (λ m. i < m) l h) in
    absurd (let no : None ≡ Some (get_or (x ∷ xs) i x) = e ∙ some in cc)

-- .. and so does one that answers what a function makes of it
pub is_there_of : {T X : Type 0} (f : X → T) (o : Option T) (xs : List X) (i n : ℕ) → o ≡ option_map f (slice_get xs i) → n ≡ length xs → i < n → IsSome o
is_there_of f o [] i n e l h = absurd (omega (arith, l, h))
is_there_of f o (x ∷ xs) i n e l h = subst IsSome (sym (e ∙ ap (option_map f) (slice_get-get_or (x ∷ xs) i x (subst (λ m. i < m) l h)))) refl

-- as much as there is of a list is all of it
pub taken_all : {X : Type 0} (xs : List X) (i n : ℕ) → n ≡ length xs → n ≤ i → take i xs ≡ xs
taken_all xs i n l h = take_all i xs (omega (arith, l, h))
