-- A list of things under their names, split at a place.
use Rattle.std.proofs.Common.{◌≡◌, ℕ, zero, suc, Bool, true, false, List, [], ◌∷◌, ◌++◌, length, refl, ap, ◌∙◌, ◌<◌, subst, arith}
use Rattle.std.specs.Prelude.{nat_lt, ◌||◌, Some, map, bytes_eq, position, slice_get, get_or}
use Rattle.std.specs.List.{AllByRecursion, IsDistinct, position_or_len}
use Rattle.std.proofs.lemmas.Bool.Decides.{nat_tests}
use Rattle.indexmap.specs.IndexMap.{set_value_at}
use Rattle.rdma_types.specs.Lists.{has_name, named, store_named}
use Rattle.rdma_types.specs.declared.names.Name.{Name}
use Rattle.rdma_types.proofs.Tables.{same_name}
use Rattle.context_core.proofs.NamedLookups.{same-either}

-- what is before a place, what is behind it, and the list with another thing there
pub record IsSplit {V : Type 0} (es : List (Name × V)) (i : ℕ) (e : Name × V) : Type 0 where
  pub front : List (Name × V)
  pub back : List (Name × V)
  pub whole : es ≡ front ++ e ∷ back
  pub changed : (w : V) → set_value_at es i w ≡ front ++ (e.0, w) ∷ back

pub split-at : {V : Type 0} (es : List (Name × V)) (i : ℕ) (e : Name × V) → slice_get es i ≡ Some e → IsSplit es i e
split-at [] i e s = absurd (cc)
split-at (x ∷ xs) zero e s = let same : x ≡ e = cc in record { front = []; back = xs; whole = ap (λ y. y ∷ xs) same; changed = λ w. ap (λ y. (y.0, w) ∷ xs) same }
split-at (x ∷ xs) (suc i) e s = let r = split-at xs i e s in record { front = x ∷ r.front; back = r.back; whole = ap (λ ys. x ∷ ys) r.whole; changed = λ w. ap (λ ys. x ∷ ys) (r.changed w) }

-- ---- names that differ

-- a name differs from those before it
pub front-differs : (front : List Name) (n : Name) (back : List Name) → IsDistinct bytes_eq (front ++ n ∷ back) → AllByRecursion (λ y. bytes_eq y n ≡ false) front
unfolding IsDistinct
front-differs [] n back d = tt
front-differs (x ∷ xs) n back d = (among xs d.0, front-differs xs n back d.1)
  where
    among : (ys : List Name) → AllByRecursion (λ y. bytes_eq x y ≡ false) (ys ++ n ∷ back) → bytes_eq x n ≡ false
    among [] a = a.0
    among (y ∷ ys) a = among ys a.1

-- a name differs from those behind it
behind-differs : (x n : Name) (ys : List Name) (j : ℕ) → AllByRecursion (λ y. bytes_eq x y ≡ false) ys → slice_get ys j ≡ Some n → bytes_eq x n ≡ false
behind-differs x n [] j a t = absurd (cc)
behind-differs x n (y ∷ ys) zero a t = let same : y ≡ n = cc in subst (λ k. bytes_eq x k ≡ false) same a.0
behind-differs x n (y ∷ ys) (suc j) a t = behind-differs x n ys j a.1 t

is-within : (n : Name) (ys : List Name) (j : ℕ) → slice_get ys j ≡ Some n → j < length ys
is-within n [] j t = absurd (cc)
is-within n (y ∷ ys) zero t = omega arith
is-within n (y ∷ ys) (suc j) t = let l = is-within n ys j t in omega arith

first-place : (n : Name) (ys : List Name) (j : ℕ) → IsDistinct bytes_eq ys → slice_get ys j ≡ Some n → position_or_len (bytes_eq n) ys ≡ j
unfolding IsDistinct
first-place n [] j e t = absurd (cc)
first-place n (y ∷ ys) zero e t = let same : y ≡ n = cc in let here : bytes_eq n y ≡ true = ap (bytes_eq n) same ∙ same_name n in grind (arith, here)
first-place n (y ∷ ys) (suc j) e t =
    let differs : bytes_eq n y ≡ false = same-either n y ∙ behind-differs y n ys j e.0 t in
    let rest : position_or_len (bytes_eq n) ys ≡ j = first-place n ys j e.1 t in
    grind (arith, differs, rest)

-- the place of a name
pub position-here : (ks : List Name) (i : ℕ) (n : Name) → IsDistinct bytes_eq ks → slice_get ks i ≡ Some n → position (bytes_eq n) ks ≡ Some i
position-here ks i n d s =
    let first : position_or_len (bytes_eq n) ks ≡ i = first-place n ks i d s in
    let inside : i < length ks = is-within n ks i s in
    let test : nat_lt i (length ks) ≡ true = grind (arith, nat_tests) in
    grind (arith, first, test)

-- the name at a place
pub name-there : (ks : List Name) (i : ℕ) → i < length ks → slice_get ks i ≡ Some (get_or ks i [])
name-there [] i l = absurd (omega arith)
name-there (x ∷ xs) zero l = refl
name-there (x ∷ xs) (suc i) l = name-there xs i (omega arith)

-- ---- a thing stored under a name

pub stored-split : {T : Type 0} (name : T → Name) (n : Name) (x y : T) (front back : List T) → name x ≡ n → AllByRecursion (λ k. bytes_eq k n ≡ false) (map name front) → store_named name n y (front ++ x ∷ back) ≡ front ++ y ∷ back
unfolding store_named
stored-split name n x y [] back e a = rw e (rw (same_name n) refl)
stored-split name n x y (z ∷ zs) back e a = rw a.0 (ap (λ ys. z ∷ ys) (stored-split name n x y zs back e a.1))

pub has-split : {T : Type 0} (name : T → Name) (n : Name) (x : T) (front back : List T) → name x ≡ n → has_name name n (front ++ x ∷ back) ≡ true
unfolding has_name
has-split name n x [] back e = rw e (rw (same_name n) refl)
has-split name n x (z ∷ zs) back e = by (bytes_eq (name z) n) (has-split name n x zs back e)
  where
    by : (b : Bool) → has_name name n (zs ++ x ∷ back) ≡ true → (b || has_name name n (zs ++ x ∷ back)) ≡ true
    by true rest = refl
    by false rest = rest

pub named-split : {T : Type 0} (name : T → Name) (none : T) (n : Name) (x : T) (front back : List T) → name x ≡ n → AllByRecursion (λ k. bytes_eq k n ≡ false) (map name front) → named name none n (front ++ x ∷ back) ≡ x
unfolding named
named-split name none n x [] back e a = rw e (rw (same_name n) refl)
named-split name none n x (z ∷ zs) back e a = rw a.0 (named-split name none n x zs back e a.1)

pub map-append : {A B : Type 0} (f : A → B) (xs ys : List A) → map f (xs ++ ys) ≡ map f xs ++ map f ys
map-append f [] ys = refl
map-append f (x ∷ xs) ys = ap (λ zs. f x ∷ zs) (map-append f xs ys)
