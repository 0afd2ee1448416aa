-- Laws of the first thing in a list that passes a test, and of things whose names stand once.
use Rattle.std.proofs.Common.{arith, ◌≡◌, ◌≤◌, ◌+◌, List, [], ◌∷◌, ◌++◌, map, true, false, Bool, refl, ap, inl, inr}
use Rattle.std.specs.Prelude.{Contains, Some, None, flat_map, bytes_eq}
use Rattle.std.specs.List.{count_by}
use Rattle.rdma_types.specs.declared.names.Name.{Name}
use Rattle.rdma_types.specs.Lists.{first_that, named, has_name, some}
use Rattle.law_simulation.proofs.relation.Tables.{count_by-cons, same_name}
use Rattle.law_simulation.proofs.relation.Grants.{contains_cases}

pub first_counted : {A : Type 0} (p q : A → Bool) (x : A) (xs : List A) → first_that p xs ≡ Some x → q x ≡ true → 1 ≤ count_by q xs
unfolding first_that
first_counted p q x [] h k = absurd (cc)
first_counted p q x (y ∷ ys) h k = grind (arith, count_by-cons q y ys, first_counted p q x ys)

-- the first that passes a test is the only one that passes another
pub first_other : {A : Type 0} (p q : A → Bool) (x : A) (xs : List A) → first_that p xs ≡ Some x → q x ≡ true → count_by q xs ≤ 1 → first_that q xs ≡ Some x
unfolding first_that
first_other p q x [] h k once = absurd (cc)
first_other p q x (y ∷ ys) h k once = grind (arith, count_by-cons q y ys, first_counted p q x ys, first_other p q x ys)

pub first_passes : {A : Type 0} (p : A → Bool) (x : A) (xs : List A) → first_that p xs ≡ Some x → p x ≡ true
unfolding first_that
first_passes p x [] h = absurd (cc)
first_passes p x (y ∷ ys) h = grind (arith, first_passes p x ys)

pub first_some : {A : Type 0} (p : A → Bool) (x : A) (xs : List A) → first_that p xs ≡ Some x → some p xs ≡ true
unfolding first_that some
first_some p x [] h = absurd (cc)
first_some p x (y ∷ ys) h = grind (arith, first_some p x ys)

-- where none passes, none that passes is there
pub first_none : {A : Type 0} (p q : A → Bool) (x : A) (xs : List A) → first_that p xs ≡ None → first_that q xs ≡ Some x → p x ≡ false
unfolding first_that
first_none p q x [] h k = absurd (cc)
first_none p q x (y ∷ ys) h k = grind (arith, first_none p q x ys)

pub count_both : {A : Type 0} (p : A → Bool) (xs ys : List A) → count_by p (xs ++ ys) ≡ count_by p xs + count_by p ys
count_both p [] ys = omega arith
count_both p (x ∷ xs) ys = grind (arith, count_by-cons p x xs, count_by-cons p x (xs ++ ys), count_both p xs ys)

-- the parts of the first that passes a test are among all parts
pub part_counted : {A B : Type 0} (p : A → Bool) (parts : A → List B) (q : B → Bool) (x : A) (xs : List A) → first_that p xs ≡ Some x → count_by q (parts x) ≤ count_by q (flat_map parts xs)
unfolding first_that
part_counted p parts q x [] h = absurd (cc)
part_counted p parts q x (y ∷ ys) h = grind (arith, count_both q (parts y) (flat_map parts ys), part_counted p parts q x ys)

-- ---- names

pub named_counted : {A : Type 0} (name : A → Name) (n : Name) (xs : List A) → has_name name n xs ≡ true → 1 ≤ count_by (λ x. bytes_eq (name x) n) xs
unfolding has_name
named_counted name n [] h = absurd (cc)
named_counted name n (x ∷ xs) h = grind (arith, count_by-cons (λ y. bytes_eq (name y) n) x xs, named_counted name n xs)

-- as many lists have a thing of the name as there are things of the name, or fewer
pub holders_counted : {A B : Type 0} (parts : A → List B) (name : B → Name) (n : Name) (xs : List A) → count_by (λ x. has_name name n (parts x)) xs ≤ count_by (λ y. bytes_eq (name y) n) (flat_map parts xs)
holders_counted parts name n [] = omega arith
holders_counted parts name n (x ∷ xs) = by_test (has_name name n (parts x)) refl (holders_counted parts name n xs)
  where
    by_test : (b : Bool) → has_name name n (parts x) ≡ b → count_by (λ z. has_name name n (parts z)) xs ≤ count_by (λ y. bytes_eq (name y) n) (flat_map parts xs) → count_by (λ z. has_name name n (parts z)) (x ∷ xs) ≤ count_by (λ y. bytes_eq (name y) n) (flat_map parts (x ∷ xs))
    by_test true h later = grind (arith, h, later, count_by-cons (λ z. has_name name n (parts z)) x xs, count_both (λ y. bytes_eq (name y) n) (parts x) (flat_map parts xs), named_counted name n (parts x) h)
    by_test false h later = grind (arith, h, later, count_by-cons (λ z. has_name name n (parts z)) x xs, count_both (λ y. bytes_eq (name y) n) (parts x) (flat_map parts xs))

pub count_map : {A B : Type 0} (f : A → B) (p : B → Bool) (q : A → Bool) (xs : List A) → ((x : A) → p (f x) ≡ q x) → count_by p (map f xs) ≡ count_by q xs
count_map f p q [] same = refl
count_map f p q (x ∷ xs) same = grind (arith, count_by-cons p (f x) (map f xs), count_by-cons q x xs, same x, count_map f p q xs same)

pub contains_counted : {A : Type 0} (name : A → Name) (e : A) (xs : List A) → Contains xs e → 1 ≤ count_by (λ x. bytes_eq (name x) (name e)) xs
contains_counted name e [] h = absurd (omega (arith, h.1))
contains_counted name e (x ∷ xs) h = elim (contains_cases e x xs h) [
  | inl a ↦ grind (arith, count_by-cons (λ y. bytes_eq (name y) (name e)) x xs, ap (λ z. bytes_eq (name z) (name e)) a, same_name (name e))
  | inr l ↦ grind (arith, count_by-cons (λ y. bytes_eq (name y) (name e)) x xs, contains_counted name e xs l)
]

pub contains_named : {A : Type 0} (name : A → Name) (e : A) (xs : List A) → Contains xs e → has_name name (name e) xs ≡ true
unfolding has_name
contains_named name e [] h = absurd (omega (arith, h.1))
contains_named name e (x ∷ xs) h = elim (contains_cases e x xs h) [
  | inl a ↦ grind (arith, ap (λ z. bytes_eq (name z) (name e)) a, same_name (name e))
  | inr l ↦ grind (arith, contains_named name e xs l)
]

-- what is there and stands once under its name is what is found
pub named_once : {A : Type 0} (name : A → Name) (none e : A) (xs : List A) → Contains xs e → count_by (λ x. bytes_eq (name x) (name e)) xs ≤ 1 → named name none (name e) xs ≡ e
unfolding named
named_once name none e [] h once = absurd (omega (arith, h.1))
named_once name none e (x ∷ xs) h once = elim (contains_cases e x xs h) [
  | inl a ↦ grind (arith, a, ap (λ z. bytes_eq (name z) (name e)) a, same_name (name e))
  | inr l ↦ grind (arith, count_by-cons (λ y. bytes_eq (name y) (name e)) x xs, contains_counted name e xs l, named_once name none e xs l)
]
