-- Counts of names, and sums over devices, where one thing changes.
use Rattle.std.proofs.Common.{arith, ◌≡◌, ◌≤◌, ◌+◌, ℕ, zero, suc, List, [], ◌∷◌, ◌++◌, map, true, false, Bool, refl, sym, ap, ◌∙◌, subst, inl, inr}
use Rattle.std.specs.Prelude.{Some, bytes_eq, count_by, if◌then◌else◌, nat_eq, slice_get, sum_by, ◌==◌, ◌||◌}
use Rattle.std.specs.List.{AllByRecursion, IsDistinct}
use Rattle.std.proofs.Math.ListN.{set}
use Rattle.std.proofs.lemmas.List.Sums.{sum_by-cons, sum_by_push}
use Rattle.rdma_types.specs.declared.names.Name.{Name}
use Rattle.rdma_types.specs.Lists.{at, first_that, has, has_name, some, without}
use Rattle.law_simulation.proofs.relation.Tables.{count_by-cons, name_tells}
use Rattle.law_settling.proofs.places.Lists.{the_same}

-- ---- how often a name stands

-- one for equal names
abbrev pub once_if : Name → Name → ℕ
once_if n k = if bytes_eq n k then 1 else 0

pub counted_push : {A : Type 0} (p : A → Bool) (x : A) (xs : List A) → count_by p (xs ++ x ∷ []) ≡ count_by p xs + (if p x then 1 else 0)
counted_push p x xs = sum_by_push (λ y. if p y then 1 else 0) xs x

pub counted_without : {A : Type 0} (name : A → Name) (n k : Name) (xs : List A) → has_name name n xs ≡ true → count_by (λ x. bytes_eq (name x) k) (without name n xs) + once_if n k ≡ count_by (λ x. bytes_eq (name x) k) xs
unfolding has_name without
counted_without name n k [] h = absurd (cc)
counted_without name n k (x ∷ xs) h = elim (name_tells (name x) n) [
  | inl t ↦ grind (arith, t.0, count_by-cons (λ y. bytes_eq (name y) k) x xs, ap {B = ℕ} (λ (m : Name). once_if m k) t.1)
  | inr t ↦ grind (arith, t.0, h, count_by-cons (λ y. bytes_eq (name y) k) x xs, count_by-cons (λ y. bytes_eq (name y) k) x (without name n xs), counted_without name n k xs)
]

pub counted_none : {A : Type 0} (name : A → Name) (n : Name) (xs : List A) → has_name name n xs ≡ false → count_by (λ x. bytes_eq (name x) n) xs ≡ 0
unfolding has_name
counted_none name n [] h = refl
counted_none name n (x ∷ xs) h = grind (arith, count_by-cons (λ y. bytes_eq (name y) n) x xs, counted_none name n xs)

-- ---- sums over devices

pub sum_place : {A : Type 0} (f : A → ℕ) (xs : List A) (i : ℕ) (x y : A) → slice_get xs i ≡ Some x → sum_by f (set xs i y) + f x ≡ sum_by f xs + f y
sum_place f [] i x y h = absurd (cc)
sum_place f (z ∷ zs) zero x y h = omega (arith, sum_by-cons f z zs, sum_by-cons f y zs, ap f (the_same z x h))
sum_place f (z ∷ zs) (suc i) x y h = omega (arith, sum_by-cons f z zs, sum_by-cons f z (set zs i y), sum_place f zs i x y h)

pub sum_none : {A : Type 0} (f : A → ℕ) (test : A → Bool) (xs : List A) → ((x : A) → test x ≡ false → f x ≡ 0) → some test xs ≡ false → sum_by f xs ≡ 0
unfolding some
sum_none f test [] none h = refl
sum_none f test (x ∷ xs) none h = grind (arith, none x, sum_by-cons f x xs, sum_none f test xs none)

pub sum_at : {A : Type 0} (f : A → ℕ) (xs : List A) (i : ℕ) (x : A) → slice_get xs i ≡ Some x → f x ≤ sum_by f xs
sum_at f [] i x h = absurd (cc)
sum_at f (z ∷ zs) zero x h = omega (arith, sum_by-cons f z zs, ap f (the_same z x h))
sum_at f (z ∷ zs) (suc i) x h = omega (arith, sum_by-cons f z zs, sum_at f zs i x h)

pub some_place : {A : Type 0} (test : A → Bool) (xs : List A) (i : ℕ) (x y : A) → slice_get xs i ≡ Some x → test y ≡ test x → some test (set xs i y) ≡ some test xs
unfolding some
some_place test [] i x y h same = absurd (cc)
some_place test (z ∷ zs) zero x y h same = ap (λ b. b || some test zs) (same ∙ ap test (sym (the_same z x h)))
some_place test (z ∷ zs) (suc i) x y h same = ap (λ b. test z || b) (some_place test zs i x y h same)

-- ---- what is found

pub number_place : {A : Type 0} (number : A → ℕ) (none : A) (k : ℕ) (xs : List A) → has number k xs ≡ true → (i : ℕ) × (slice_get xs i ≡ Some (at number none k xs))
unfolding has at
number_place number none k [] h = absurd (cc)
number_place {A} number none k (x ∷ xs) h = by_test (number x == k) h (number_place number none k xs)
  where
    by_test : (b : Bool) → (b || has number k xs) ≡ true → (has number k xs ≡ true → (i : ℕ) × (slice_get xs i ≡ Some (at number none k xs))) → (i : ℕ) × (slice_get (x ∷ xs) i ≡ Some (if b then x else at number none k xs))
    by_test true t later = (zero, refl)
    by_test false t later = let r : (i : ℕ) × (slice_get xs i ≡ Some (at number none k xs)) = later t in (suc r.0, r.1)

pub found_named : {A : Type 0} (name : A → Name) (n : Name) (x : A) (xs : List A) → first_that (λ y. bytes_eq (name y) n) xs ≡ Some x → (has_name name n xs ≡ true) × (bytes_eq (name x) n ≡ true)
unfolding first_that has_name
found_named name n x [] h = absurd (cc)
found_named name n x (y ∷ ys) h = by_test (bytes_eq (name y) n) refl h (found_named name n x ys)
  where
    by_test : (b : Bool) → bytes_eq (name y) n ≡ b → (if b then Some y else first_that (λ z. bytes_eq (name z) n) ys) ≡ Some x → (first_that (λ z. bytes_eq (name z) n) ys ≡ Some x → (has_name name n ys ≡ true) × (bytes_eq (name x) n ≡ true)) → ((b || has_name name n ys) ≡ true) × (bytes_eq (name x) n ≡ true)
    by_test true t g later = (refl, ap (λ z. bytes_eq (name z) n) (sym (the_same y x g)) ∙ t)
    by_test false t g later = later g

-- ---- numbers that are distinct

others_push : (n k : ℕ) (ks : List ℕ) → AllByRecursion (λ m. nat_eq n m ≡ false) ks → nat_eq n k ≡ false → AllByRecursion (λ m. nat_eq n m ≡ false) (ks ++ k ∷ [])
others_push n k [] all h = (h, tt)
others_push n k (x ∷ ks) all h = (all.0, others_push n k ks all.1 h)

pub distinct_push : {A : Type 0} (number : A → ℕ) (y : A) (xs : List A) → IsDistinct nat_eq (map number xs) → has number (number y) xs ≡ false → IsDistinct nat_eq (map number (xs ++ y ∷ []))
unfolding has IsDistinct
distinct_push number y [] distinct h = (tt, tt)
distinct_push {A} number y (x ∷ xs) distinct h =
    let p : (nat_eq (number x) (number y) ≡ false) × (has number (number y) xs ≡ false) = neither _ _ h in
    (subst (AllByRecursion (λ m. nat_eq (number x) m ≡ false)) (sym (mapped xs)) (others_push (number x) (number y) (map number xs) distinct.0 p.0), distinct_push number y xs distinct.1 p.1)
  where
    neither : (a b : Bool) → (a || b) ≡ false → (a ≡ false) × (b ≡ false)
    neither true b t = absurd (cc)
    neither false b t = (refl, t)

    mapped : (zs : List A) → map number (zs ++ y ∷ []) ≡ map number zs ++ number y ∷ []
    mapped [] = refl
    mapped (z ∷ zs) = ap (λ ns. number z ∷ ns) (mapped zs)
