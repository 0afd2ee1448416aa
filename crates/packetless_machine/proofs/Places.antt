-- The search for a thing, one place after another, and what is found, changed or taken at a place.
use Rattle.std.proofs.Common.{arith, ◌≡◌, ◌<◌, ◌≤◌, ◌+◌, ℕ, Bool, List, [], ◌∷◌, length, drop, get_or, set, true, false, refl, nat_lt, ◌∙◌, ap}
use Rattle.std.specs.Prelude.{bytes_eq, is_some, remove}
use Rattle.std.specs.List.{list_any}
use Rattle.std.proofs.lemmas.Bool.Decides.{nat_tests}
use Rattle.std.proofs.lemmas.List.{at_drop_more, at_drop_all, set_past}
use Rattle.std.proofs.lemmas.Grind.{common_steps}
use Rattle.rdma_types.specs.Lists.{named, has_name, without, first_that}
use Rattle.packetless_machine.specs.Tables.{place_where, place, replaced}

-- ---- the search, at place i

-- the thing at i passes
pub found_here : {A : Type 0} (p : A → Bool) (xs : List A) (i : ℕ) (x : A) → i < length xs → x ≡ get_or xs i x → p x ≡ true → place_where p (drop i xs) + i ≡ place_where p xs → i ≡ place_where p xs
unfolding place_where
found_here p xs i x h read is before = grind (arith, at_drop_more (place_where p) xs i x h)

-- the thing at i does not pass
pub not_here : {A : Type 0} (p : A → Bool) (xs : List A) (i : ℕ) (x : A) → i < length xs → x ≡ get_or xs i x → p x ≡ false → place_where p (drop i xs) + i ≡ place_where p xs → place_where p (drop (i + 1) xs) + (i + 1) ≡ place_where p xs
unfolding place_where
not_here p xs i x h read is before = grind (arith, at_drop_more (place_where p) xs i x h)

-- nothing passes
pub nowhere : {A : Type 0} (p : A → Bool) (xs : List A) (i : ℕ) → length xs ≤ i → i ≤ length xs → place_where p (drop i xs) + i ≡ place_where p xs → length xs ≡ place_where p xs
unfolding place_where
nowhere p xs i h within before = grind (arith, at_drop_all (place_where p) xs i h)

-- ---- whether a thing passes, at place i

-- the thing at i does
pub any_here : {A : Type 0} (p : A → Bool) (xs : List A) (i : ℕ) (x : A) → i < length xs → x ≡ get_or xs i x → p x ≡ true → list_any p (drop i xs) ≡ list_any p xs → true ≡ list_any p xs
any_here p xs i x h read is before = grind (arith, at_drop_more (list_any p) xs i x h)

-- the thing at i does not
pub any_later : {A : Type 0} (p : A → Bool) (xs : List A) (i : ℕ) (x : A) → i < length xs → x ≡ get_or xs i x → p x ≡ false → list_any p (drop i xs) ≡ list_any p xs → list_any p (drop (i + 1) xs) ≡ list_any p xs
any_later p xs i x h read is before = grind (arith, at_drop_more (list_any p) xs i x h)

-- no thing is left
pub any_none : {A : Type 0} (p : A → Bool) (xs : List A) (i : ℕ) → length xs ≤ i → list_any p (drop i xs) ≡ list_any p xs → false ≡ list_any p xs
any_none p xs i h before = grind (arith, at_drop_all (list_any p) xs i h)

-- ---- what is at the place that was found

-- it passes
pub passes : {A : Type 0} (p : A → Bool) (xs : List A) (x : A) → place_where p xs < length xs → x ≡ get_or xs (place_where p xs) x → p x ≡ true
unfolding place_where
passes p [] x h read = absurd (omega arith)
passes p (y ∷ ys) x h read = by (p y) refl (passes p ys x)
  where
    by : (b : Bool) → p y ≡ b → (place_where p ys < length ys → x ≡ get_or ys (place_where p ys) x → p x ≡ true) → p x ≡ true
    by true e ih = grind (arith, e)
    by false e ih = ih (grind (arith, e)) (grind (arith, e))

-- ---- things by their names

module _ {A : Type 0} (name : A → List ℕ) (k : List ℕ) where
  pub named_there : (none : A) (xs : List A) (x : A) → place name k xs < length xs → x ≡ get_or xs (place name k xs) x → named name none k xs ≡ x
  unfolding place_where named
  named_there none [] x h read = absurd (omega arith)
  named_there none (y ∷ ys) x h read = by (bytes_eq (name y) k) refl (named_there none ys x)
    where
      by : (b : Bool) → bytes_eq (name y) k ≡ b → (place name k ys < length ys → x ≡ get_or ys (place name k ys) x → named name none k ys ≡ x) → named name none k (y ∷ ys) ≡ x
      by true e ih = grind (arith, e)
      by false e ih = grind (arith, e, ih)

  pub named_nowhere : (none : A) (xs : List A) → length xs ≤ place name k xs → named name none k xs ≡ none
  unfolding place_where named
  named_nowhere none [] h = refl
  named_nowhere none (y ∷ ys) h = by (bytes_eq (name y) k) refl (named_nowhere none ys)
    where
      by : (b : Bool) → bytes_eq (name y) k ≡ b → (length ys ≤ place name k ys → named name none k ys ≡ none) → named name none k (y ∷ ys) ≡ none
      by true e ih = absurd (grind (arith, e))
      by false e ih = grind (arith, e, ih)

  pub has_name_is : (xs : List A) → has_name name k xs ≡ nat_lt (place name k xs) (length xs)
  unfolding place_where has_name
  has_name_is [] = refl
  has_name_is (y ∷ ys) = by (bytes_eq (name y) k) refl (has_name_is ys)
    where
      by : (b : Bool) → bytes_eq (name y) k ≡ b → has_name name k ys ≡ nat_lt (place name k ys) (length ys) → has_name name k (y ∷ ys) ≡ nat_lt (place name k (y ∷ ys)) (length (y ∷ ys))
      by true e ih = grind (arith, nat_tests, e)
      by false e ih = grind (arith, nat_tests, e, ih)

  pub replaced_is : (x : A) (xs : List A) → replaced name k x xs ≡ set xs (place name k xs) x
  unfolding replaced
  replaced_is x xs = refl

  pub replaced_nowhere : (x : A) (xs : List A) → length xs ≤ place name k xs → replaced name k x xs ≡ xs
  replaced_nowhere x xs h = replaced_is x xs ∙ set_past xs (place name k xs) x h

  pub replaced_same : (none : A) (xs : List A) → replaced name k (named name none k xs) xs ≡ xs
  unfolding place_where replaced named
  replaced_same none [] = refl
  replaced_same none (y ∷ ys) = by (bytes_eq (name y) k) refl (replaced_same none ys)
    where
      by : (b : Bool) → bytes_eq (name y) k ≡ b → replaced name k (named name none k ys) ys ≡ ys → replaced name k (named name none k (y ∷ ys)) (y ∷ ys) ≡ y ∷ ys
      by true e ih = rw e refl
      by false e ih = rw e (ap (λ l. y ∷ l) ih)

  pub without_is : (xs : List A) → without name k xs ≡ remove xs (place name k xs)
  unfolding place_where without
  without_is [] = refl
  without_is (y ∷ ys) = by (bytes_eq (name y) k) refl (without_is ys)
    where
      by : (b : Bool) → bytes_eq (name y) k ≡ b → without name k ys ≡ remove ys (place name k ys) → without name k (y ∷ ys) ≡ remove (y ∷ ys) (place name k (y ∷ ys))
      by true e ih = grind (arith, e)
      by false e ih = grind (arith, e, ih)

  pub without_nowhere : (xs : List A) → length xs ≤ place name k xs → without name k xs ≡ xs
  without_nowhere xs h = without_is xs ∙ grind (arith, common_steps)

-- some thing passes
pub some_passes : {A : Type 0} (p : A → Bool) (xs : List A) → is_some (first_that p xs) ≡ list_any p xs
unfolding first_that
some_passes p [] = refl
some_passes p (y ∷ ys) = by (p y) refl (some_passes p ys)
  where
    by : (b : Bool) → p y ≡ b → is_some (first_that p ys) ≡ list_any p ys → is_some (first_that p (y ∷ ys)) ≡ list_any p (y ∷ ys)
    by true e ih = grind (arith, e)
    by false e ih = grind (arith, e, ih)

-- things by their names
pub ruleset by_names = (named_there, named_nowhere, has_name_is, replaced_is, replaced_nowhere, without_is, without_nowhere)
