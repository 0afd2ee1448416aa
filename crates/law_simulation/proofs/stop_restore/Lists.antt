-- Lists of things with names: one leaves, and one comes.
use Rattle.std.proofs.Common.{arith, ◌≡◌, ◌≢◌, ◌≤◌, ℕ, List, [], ◌∷◌, ◌++◌, map, true, false, Bool, refl, sym, ap, ◌∙◌, subst, inl, inr}
use Rattle.std.specs.Prelude.{◌||◌, ◌==◌, if◌then◌else◌, flat_map, bytes_eq, All, Contains, Some}
use Rattle.std.specs.List.{count_by}
use Rattle.std.proofs.lemmas.Bool.Decides.{nat_tests}
use Rattle.std.proofs.lemmas.List.{append_assoc}
use Rattle.std.proofs.lemmas.List.Elements.{All-nil, All-cons, All-head, All-tail, All-weaker, All-contains_itself}
use Rattle.rdma_types.specs.declared.names.Name.{Name}
use Rattle.rdma_types.specs.Lists.{named, has_name, without, has, at, store, some, first_that}
use Rattle.law_simulation.proofs.relation.Tables.{name_tells, same_name, count_by-cons}
use Rattle.law_simulation.proofs.relation.Inserts.{Inserts, inserts_before}

pub inserts_after : {A : Type 0} (x : A) (front xs ys : List A) → Inserts A x xs ys → Inserts A x (front ++ xs) (front ++ ys)
inserts_after x front xs ys i = record {
  before = front ++ i.before;
  after = i.after;
  was = ap (λ zs. front ++ zs) i.was ∙ sym (append_assoc front i.before i.after);
  is = ap (λ zs. front ++ zs) i.is ∙ sym (append_assoc front i.before (x ∷ i.after));
}

-- the list without the thing of a name, and that thing
pub inserts_without : {A : Type 0} (name : A → Name) (none : A) (n : Name) (xs : List A) → has_name name n xs ≡ true → Inserts A (named name none n xs) (without name n xs) xs
unfolding has_name named without
inserts_without name none n [] h = absurd (cc)
inserts_without {A} name none n (x ∷ xs) h = by_test (bytes_eq (name x) n) h (inserts_without name none n xs)
  where
    by_test : (b : Bool) → (b || has_name name n xs) ≡ true → (has_name name n xs ≡ true → Inserts A (named name none n xs) (without name n xs) xs) → Inserts A (if b then x else named name none n xs) (if b then xs else x ∷ without name n xs) (x ∷ xs)
    by_test true t later = record { before = []; after = xs; was = refl; is = refl }
    by_test false t later = inserts_after (named name none n xs) (x ∷ []) (without name n xs) xs (later t)

-- a thing of a part that has it in another place
pub inserts_parts : {A B : Type 0} (f : A → List B) (number : A → ℕ) (none : A) (k : ℕ) (e : A) (b : B) (xs : List A) → has number k xs ≡ true → Inserts B b (f e) (f (at number none k xs)) → Inserts B b (flat_map f (store number k e xs)) (flat_map f xs)
unfolding has at store
inserts_parts f number none k e b [] there h = absurd (cc)
inserts_parts {A} {B} f number none k e b (x ∷ xs) there h = by_test (number x == k) there h (inserts_parts f number none k e b xs)
  where
    by_test : (t : Bool) → (t || has number k xs) ≡ true → Inserts B b (f e) (f (if t then x else at number none k xs)) → (has number k xs ≡ true → Inserts B b (f e) (f (at number none k xs)) → Inserts B b (flat_map f (store number k e xs)) (flat_map f xs)) → Inserts B b (flat_map f (if t then e ∷ xs else x ∷ store number k e xs)) (flat_map f (x ∷ xs))
    by_test true there' i later = inserts_before b (flat_map f xs) (f e) (f x) i
    by_test false there' i later = inserts_after b (f x) (flat_map f (store number k e xs)) (flat_map f xs) (later there' i)

-- ---- counts of names

pub present_counted : {A : Type 0} (name : A → Name) (n : Name) (xs : List A) → has_name name n xs ≡ true → 1 ≤ count_by (λ x. bytes_eq (name x) n) xs
unfolding has_name
present_counted name n [] h = absurd (cc)
present_counted name n (x ∷ xs) h = grind (arith, count_by-cons (λ y. bytes_eq (name y) n) x xs, present_counted name n xs)

pub absent_by_count : {A : Type 0} (name : A → Name) (n : Name) (xs : List A) → count_by (λ x. bytes_eq (name x) n) xs ≡ 0 → has_name name n xs ≡ false
absent_by_count name n xs none = by_test (has_name name n xs) refl
  where
    by_test : (b : Bool) → has_name name n xs ≡ b → has_name name n xs ≡ false
    by_test false h = h
    by_test true h = absurd (omega (arith, none, present_counted name n xs h))

pub count_map : {A B : Type 0} (p : B → Bool) (f : A → B) (xs : List A) → count_by p (map f xs) ≡ count_by (λ x. p (f x)) xs
count_map p f [] = refl
count_map p f (x ∷ xs) = grind (arith, count_by-cons p (f x) (map f xs), count_by-cons (λ z. p (f z)) x xs, count_map p f xs)

-- ---- what holds of each thing, where names stand once

-- .. holds of the thing with each name
pub all_by_name : {A : Type 0} (P : A → Type 0) (name : A → Name) (none : Name → A) (xs : List A) → ((n : Name) → count_by (λ x. bytes_eq (name x) n) xs ≤ 1) → ((n : Name) → has_name name n xs ≡ true → P (named name (none n) n xs)) → All P xs
unfolding has_name named
all_by_name P name none [] once h = All-nil P
all_by_name P name none (x ∷ xs) once h =
    let here : P x = subst P (ap (λ b. if b then x else named name (none (name x)) (name x) xs) (same_name (name x))) (h (name x) (ap (λ b. b || has_name name (name x) xs) (same_name (name x)))) in
    All-cons P x xs here (all_by_name P name none xs (λ n. omega (arith, once n, count_by-cons (λ y. bytes_eq (name y) n) x xs)) (λ n there. elim (name_tells (name x) n) [
      | inr t ↦ subst P (ap (λ b. if b then x else named name (none n) n xs) t.0) (h n (ap (λ b. b || has_name name n xs) t.0 ∙ there))
      | inl t ↦ absurd (omega (arith, once n, count_by-cons (λ y. bytes_eq (name y) n) x xs, ap {B = ℕ} (λ b. if b then 1 else 0) t.0, present_counted name n xs there))
    ]))

-- ---- some thing passes a test

pub some_named : {A : Type 0} (test : A → Bool) (name : A → Name) (none : A) (n : Name) (xs : List A) → has_name name n xs ≡ true → test (named name none n xs) ≡ true → some test xs ≡ true
unfolding has_name named some
some_named test name none n [] there h = absurd (cc)
some_named test name none n (x ∷ xs) there h = grind (arith, some_named test name none n xs)

pub some_append : {A : Type 0} (test : A → Bool) (xs ys : List A) → some test (xs ++ ys) ≡ (some test xs || some test ys)
unfolding some
some_append test [] ys = refl
some_append test (x ∷ xs) ys = grind (arith, some_append test xs ys)

pub some_parts : {A B : Type 0} (test : B → Bool) (f : A → List B) (xs : List A) → some test (flat_map f xs) ≡ some (λ x. some test (f x)) xs
unfolding some
some_parts test f [] = refl
some_parts test f (x ∷ xs) = some_append test (f x) (flat_map f xs) ∙ ap (λ b. some test (f x) || b) (some_parts test f xs)

pub some_map : {A B : Type 0} (test : B → Bool) (f : A → B) (xs : List A) → some test (map f xs) ≡ some (λ x. test (f x)) xs
unfolding some
some_map test f [] = refl
some_map test f (x ∷ xs) = ap (λ b. test (f x) || b) (some_map test f xs)

-- ---- what is found is there

pub found_there : {A : Type 0} (number : A → ℕ) (test : A → Bool) (d : A) (xs : List A) → first_that test xs ≡ Some d → has number (number d) xs ≡ true
unfolding first_that has
found_there number test d [] h = absurd (cc)
found_there number test d (x ∷ xs) h = grind (arith, nat_tests, found_there number test d xs)

pub has_without : {A : Type 0} (name : A → Name) (n k : Name) (xs : List A) → (k ≢ n) → has_name name k (without name n xs) ≡ has_name name k xs
unfolding has_name without
has_without name n k [] ne = refl
has_without name n k (x ∷ xs) ne = grind (arith, name_tells (name x) n, name_tells (name x) k, ne, has_without name n k xs ne)

-- ---- All, of parts and of what is contained

pub all_of_contained : {A : Type 0} (P : A → Type 0) (xs : List A) → ((x : A) → Contains xs x → P x) → All P xs
all_of_contained P xs h = All-weaker (Contains xs) P h xs (All-contains_itself xs)

pub all_before : {A : Type 0} (P : A → Type 0) (xs ys : List A) → All P (xs ++ ys) → All P xs
all_before P [] ys all = All-nil P
all_before P (x ∷ xs) ys all = All-cons P x xs (All-head P x (xs ++ ys) all) (all_before P xs ys (All-tail P x (xs ++ ys) all))

pub all_after : {A : Type 0} (P : A → Type 0) (xs ys : List A) → All P (xs ++ ys) → All P ys
all_after P [] ys all = all
all_after P (x ∷ xs) ys all = all_after P xs ys (All-tail P x (xs ++ ys) all)
