-- Laws of the lists of things that are found by name.
use Rattle.std.proofs.Common.{arith, ◌≡◌, ◌≢◌, ◌⊎◌, ◌≤◌, ◌+◌, ℕ, List, [], ◌∷◌, ◌++◌, map, true, false, Bool, refl, sym, ap, ◌∙◌, inl, inr, subst}
use Rattle.std.specs.Prelude.{bytes_eq, All, ◌||◌, if◌then◌else◌, flat_map, Some, ◌==◌}
use Rattle.std.proofs.lemmas.Bool.Decides.{nat_tests, eqb_tells}
use Rattle.std.proofs.lemmas.Slice.Eq.{bytes_eq-Decides}
use Rattle.std.proofs.lemmas.List.Elements.{All-cons, All-head, All-tail}
use Rattle.rdma_types.specs.Lists.{named, has_name, store_named, without, first_that, store, at, has, some}
use Rattle.packetless_machine.specs.Tables.{replaced, place_where}
use Rattle.std.specs.List.{count_by}
use Rattle.std.proofs.lemmas.List.Sums.{sum_by-cons, sum_by_push}

-- what a test of names tells
pub name_tells : (a b : List ℕ) → ((bytes_eq a b ≡ true) × (a ≡ b)) ⊎ ((bytes_eq a b ≡ false) × (a ≢ b))
name_tells a b = by_test (bytes_eq a b) refl
  where
    by_test : (r : Bool) → bytes_eq a b ≡ r → ((bytes_eq a b ≡ true) × (a ≡ b)) ⊎ ((bytes_eq a b ≡ false) × (a ≢ b))
    by_test true h = inl (h, (bytes_eq-Decides a b).0 h)
    by_test false h = inr (h, λ e. absurd (cc ((bytes_eq-Decides a b).1 e, h)))

pub same_name : (a : List ℕ) → bytes_eq a a ≡ true
same_name a = (bytes_eq-Decides a a).1 refl

pub name_or_not : (a b : List ℕ) → (a ≡ b) ⊎ (a ≢ b)
name_or_not a b = elim (name_tells a b) [ inl h ↦ inl h.1 | inr h ↦ inr h.1 ]

All-if : {A : Type 0} (P : A → Type 0) (b : Bool) (xs ys : List A) → All P xs → All P ys → All P (if b then xs else ys)
All-if P true xs ys h k = h
All-if P false xs ys h k = k

pub named-store_same : {A : Type 0} (name : A → List ℕ) (none : A) (n : List ℕ) (e : A) (xs : List A) → name e ≡ n → named name none n (store_named name n e xs) ≡ e
unfolding named store_named
named-store_same name none n e [] h = grind (arith, same_name n)
named-store_same name none n e (x ∷ xs) h = grind (arith, same_name n, name_tells (name x) n, named-store_same name none n e xs h)

pub named-store_other : {A : Type 0} (name : A → List ℕ) (none : A) (n k : List ℕ) (e : A) (xs : List A) → name e ≡ n → k ≢ n → named name none k (store_named name n e xs) ≡ named name none k xs
unfolding named store_named
named-store_other name none n k e [] h ne = grind (arith, name_tells (name e) k)
named-store_other name none n k e (x ∷ xs) h ne = grind (arith, name_tells (name x) n, name_tells (name e) k, name_tells (name x) k, named-store_other name none n k e xs h ne)

pub name-named : {A : Type 0} (name : A → List ℕ) (none : A) (n : List ℕ) (xs : List A) → name none ≡ n → name (named name none n xs) ≡ n
unfolding named
name-named name none n [] h = h
name-named name none n (x ∷ xs) h = grind (arith, name_tells (name x) n, name-named name none n xs h)

-- a part of each thing stays where the new thing has the part of the old one
pub map-store : {A B : Type 0} (f : A → B) (name : A → List ℕ) (none : A) (n : List ℕ) (e : A) (xs : List A) → has_name name n xs ≡ true → f e ≡ f (named name none n xs) → map f (store_named name n e xs) ≡ map f xs
unfolding named store_named has_name
map-store f name none n e [] there h = absurd (cc)
map-store f name none n e (x ∷ xs) there h = grind (arith, name_tells (name x) n, map-store f name none n e xs)

pub flat_map-store : {A B : Type 0} (f : A → List B) (name : A → List ℕ) (none : A) (n : List ℕ) (e : A) (xs : List A) → has_name name n xs ≡ true → f e ≡ f (named name none n xs) → flat_map f (store_named name n e xs) ≡ flat_map f xs
unfolding named store_named has_name
flat_map-store f name none n e [] there h = absurd (cc)
flat_map-store f name none n e (x ∷ xs) there h = grind (arith, name_tells (name x) n, flat_map-store f name none n e xs)

pub All-store : {A : Type 0} (P : A → Type 0) (name : A → List ℕ) (n : List ℕ) (e : A) (xs : List A) → All P xs → P e → All P (store_named name n e xs)
unfolding store_named
All-store P name n e [] all h = All-cons P e [] h all
All-store P name n e (x ∷ xs) all h =
    All-if P (bytes_eq (name x) n) (e ∷ xs) (x ∷ store_named name n e xs)
    (All-cons P e xs h (All-tail P x xs all))
    (All-cons P x (store_named name n e xs) (All-head P x xs all) (All-store P name n e xs (All-tail P x xs all) h))

pub All-without : {A : Type 0} (P : A → Type 0) (name : A → List ℕ) (n : List ℕ) (xs : List A) → All P xs → All P (without name n xs)
unfolding without
All-without P name n [] all = all
All-without P name n (x ∷ xs) all =
    All-if P (bytes_eq (name x) n) xs (x ∷ without name n xs)
    (All-tail P x xs all)
    (All-cons P x (without name n xs) (All-head P x xs all) (All-without P name n xs (All-tail P x xs all)))

pub All-named : {A : Type 0} (P : A → Type 0) (name : A → List ℕ) (none : A) (n : List ℕ) (xs : List A) → All P xs → has_name name n xs ≡ true → P (named name none n xs)
unfolding named has_name
All-named P name none n [] all h = absurd (cc)
All-named P name none n (x ∷ xs) all h = elim (name_tells (name x) n) [
  | inl t ↦ subst (λ b. P (if b then x else named name none n xs)) (sym t.0) (All-head P x xs all)
  | inr t ↦ subst (λ b. P (if b then x else named name none n xs)) (sym t.0) (All-named P name none n xs (All-tail P x xs all) (subst (λ b. (b || has_name name n xs) ≡ true) t.0 h))
]

-- ---- lists joined

pub store_named-append_has : {A : Type 0} (name : A → List ℕ) (n : List ℕ) (e : A) (xs ys : List A) → has_name name n xs ≡ true → store_named name n e (xs ++ ys) ≡ store_named name n e xs ++ ys
unfolding has_name store_named
store_named-append_has name n e [] ys h = absurd (cc)
store_named-append_has name n e (x ∷ xs) ys h = grind (arith, name_tells (name x) n, store_named-append_has name n e xs ys)

pub store_named-append_lacks : {A : Type 0} (name : A → List ℕ) (n : List ℕ) (e : A) (xs ys : List A) → has_name name n xs ≡ false → store_named name n e (xs ++ ys) ≡ xs ++ store_named name n e ys
unfolding has_name store_named
store_named-append_lacks name n e [] ys h = refl
store_named-append_lacks name n e (x ∷ xs) ys h = grind (arith, name_tells (name x) n, store_named-append_lacks name n e xs ys)

pub has_name-append : {A : Type 0} (name : A → List ℕ) (n : List ℕ) (xs ys : List A) → has_name name n (xs ++ ys) ≡ (has_name name n xs || has_name name n ys)
unfolding has_name
has_name-append name n [] ys = refl
has_name-append name n (x ∷ xs) ys = grind (arith, has_name-append name n xs ys)

pub has_name-push : {A : Type 0} (name : A → List ℕ) (n : List ℕ) (xs : List A) (e : A) → has_name name n (xs ++ e ∷ []) ≡ (has_name name n xs || bytes_eq (name e) n)
unfolding has_name
has_name-push name n [] e = grind arith
has_name-push name n (x ∷ xs) e = grind (arith, has_name-push name n xs e)

pub named-append_has : {A : Type 0} (name : A → List ℕ) (a b : A) (n : List ℕ) (xs ys : List A) → has_name name n xs ≡ true → named name a n (xs ++ ys) ≡ named name b n xs
unfolding has_name named
named-append_has name a b n [] ys h = absurd (cc)
named-append_has name a b n (x ∷ xs) ys h = grind (arith, named-append_has name a b n xs ys)

pub named-append_lacks : {A : Type 0} (name : A → List ℕ) (a : A) (n : List ℕ) (xs ys : List A) → has_name name n xs ≡ false → named name a n (xs ++ ys) ≡ named name a n ys
unfolding has_name named
named-append_lacks name a n [] ys h = refl
named-append_lacks name a n (x ∷ xs) ys h = grind (arith, named-append_lacks name a n xs ys)

pub has_name-map : {A B : Type 0} (f : A → B) (name : B → List ℕ) (name' : A → List ℕ) (n : List ℕ) (xs : List A) → ((x : A) → name (f x) ≡ name' x) → has_name name n (map f xs) ≡ has_name name' n xs
unfolding has_name
has_name-map f name name' n [] same = refl
has_name-map f name name' n (x ∷ xs) same = grind (arith, same x, has_name-map f name name' n xs same)

-- where there is a thing of the name, the machine puts a new one in its place as the protocol does
pub replaced-stored : {A : Type 0} (name : A → List ℕ) (n : List ℕ) (e : A) (xs : List A) → has_name name n xs ≡ true → replaced name n e xs ≡ store_named name n e xs
unfolding has_name store_named replaced place_where
replaced-stored name n e [] h = absurd (cc)
replaced-stored name n e (x ∷ xs) h = by_test (bytes_eq (name x) n) refl (replaced-stored name n e xs)
  where
    by_test : (b : Bool) → bytes_eq (name x) n ≡ b → (has_name name n xs ≡ true → replaced name n e xs ≡ store_named name n e xs) → replaced name n e (x ∷ xs) ≡ store_named name n e (x ∷ xs)
    by_test true t later = rw t refl
    by_test false t later = rw t (ap (λ l. x ∷ l) (later (ap (λ b. b || has_name name n xs) (sym t) ∙ h)))

-- a thing that is not there is stored at the end
pub store_named-new : {A : Type 0} (name : A → List ℕ) (n : List ℕ) (e : A) (xs : List A) → has_name name n xs ≡ false → store_named name n e xs ≡ xs ++ e ∷ []
unfolding has_name store_named
store_named-new name n e [] h = refl
store_named-new name n e (x ∷ xs) h = grind (arith, name_tells (name x) n, store_named-new name n e xs)

pub has_name-store : {A : Type 0} (name : A → List ℕ) (n k : List ℕ) (e : A) (xs : List A) → has_name name n xs ≡ true → name e ≡ n → has_name name k (store_named name n e xs) ≡ has_name name k xs
unfolding has_name store_named
has_name-store name n k e [] there h = absurd (cc)
has_name-store name n k e (x ∷ xs) there h = grind (arith, name_tells (name x) n, has_name-store name n k e xs)

-- the thing that is found has the name
pub name-named_there : {A : Type 0} (name : A → List ℕ) (none : A) (n : List ℕ) (xs : List A) → has_name name n xs ≡ true → name (named name none n xs) ≡ n
unfolding has_name named
name-named_there name none n [] h = absurd (cc)
name-named_there name none n (x ∷ xs) h = grind (arith, name_tells (name x) n, name-named_there name none n xs)

-- what is found does not depend on what stands where nothing is found
pub named-there : {A : Type 0} (name : A → List ℕ) (a b : A) (n : List ℕ) (xs : List A) → has_name name n xs ≡ true → named name a n xs ≡ named name b n xs
unfolding has_name named
named-there name a b n [] h = absurd (cc)
named-there name a b n (x ∷ xs) h = grind (arith, named-there name a b n xs)

pub named-absent : {A : Type 0} (name : A → List ℕ) (a : A) (n : List ℕ) (xs : List A) → has_name name n xs ≡ false → named name a n xs ≡ a
unfolding has_name named
named-absent name a n [] h = refl
named-absent name a n (x ∷ xs) h = grind (arith, named-absent name a n xs)

-- ---- the first that passes a test, in the place of the one with its number

pub count_by-cons : {A : Type 0} (p : A → Bool) (x : A) (xs : List A) → count_by p (x ∷ xs) ≡ (if p x then 1 else 0) + count_by p xs
count_by-cons p x xs = sum_by-cons (λ y. if p y then 1 else 0) x xs

pub found_number : {A : Type 0} (number : A → ℕ) (test : A → Bool) (d : A) (xs : List A) → first_that test xs ≡ Some d → 1 ≤ count_by (λ x. number x == number d) xs
unfolding first_that
found_number number test d [] h = absurd (cc)
found_number number test d (x ∷ xs) h = grind (arith, nat_tests, count_by-cons (λ y. number y == number d) x xs, found_number number test d xs)

pub once_later : {A : Type 0} (number : A → ℕ) (k : ℕ) (x : A) (xs : List A) → count_by (λ y. number y == k) (x ∷ xs) ≤ 1 → count_by (λ y. number y == k) xs ≤ 1
once_later number k x xs h = grind (arith, count_by-cons (λ y. number y == k) x xs, h)

pub map-store_found : {A B : Type 0} (f : A → B) (number : A → ℕ) (test : A → Bool) (d e : A) (xs : List A) → ((k : ℕ) → count_by (λ x. number x == k) xs ≤ 1) → first_that test xs ≡ Some d → f e ≡ f d → map f (store number (number d) e xs) ≡ map f xs
unfolding first_that store
map-store_found f number test d e [] once h same = absurd (cc)
map-store_found f number test d e (x ∷ xs) once h same = grind (arith, nat_tests, once (number d), count_by-cons (λ y. number y == number d) x xs, found_number number test d xs, map-store_found f number test d e xs (λ k. once_later number k x xs (once k)))

pub flat-store_found : {A B : Type 0} (parts : A → List B) (name : B → List ℕ) (number : A → ℕ) (n : List ℕ) (b : B) (d e : A) (xs : List A) → ((k : ℕ) → count_by (λ x. number x == k) xs ≤ 1) → first_that (λ x. has_name name n (parts x)) xs ≡ Some d → parts e ≡ store_named name n b (parts d) → flat_map parts (store number (number d) e xs) ≡ store_named name n b (flat_map parts xs)
unfolding first_that store
flat-store_found parts name number n b d e [] once h same = absurd (cc)
flat-store_found parts name number n b d e (x ∷ xs) once h same = grind (arith, nat_tests, once (number d), count_by-cons (λ y. number y == number d) x xs, found_number number (λ x. has_name name n (parts x)) d xs, store_named-append_has name n b (parts x) (flat_map parts xs), store_named-append_lacks name n b (parts x) (flat_map parts xs), flat-store_found parts name number n b d e xs (λ k. once_later number k x xs (once k)))

-- the found one is the one with its number
pub at-found : {A : Type 0} (number : A → ℕ) (none : A) (test : A → Bool) (d : A) (xs : List A) → ((k : ℕ) → count_by (λ x. number x == k) xs ≤ 1) → first_that test xs ≡ Some d → at number none (number d) xs ≡ d
unfolding first_that at
at-found number none test d [] once h = absurd (cc)
at-found number none test d (x ∷ xs) once h = grind (arith, nat_tests, once (number d), count_by-cons (λ y. number y == number d) x xs, found_number number test d xs, at-found number none test d xs (λ k. once_later number k x xs (once k)))

-- a number of each thing grows where that of the new one does
pub at-store_grows : {A : Type 0} (f number : A → ℕ) (none : A) (j k : ℕ) (e : A) (xs : List A) → number e ≡ j → f (at number none j xs) ≤ f e → f (at number none k xs) ≤ f (at number none k (store number j e xs))
unfolding at store
at-store_grows f number none j k e [] same h = grind (arith, nat_tests)
at-store_grows f number none j k e (x ∷ xs) same h = grind (arith, nat_tests, at-store_grows f number none j k e xs same)

-- .. and stays where that of the new one does
pub at-store_part : {A B : Type 0} (f : A → B) (number : A → ℕ) (none : A) (j k : ℕ) (e : A) (xs : List A) → number e ≡ j → f e ≡ f (at number none j xs) → f (at number none k (store number j e xs)) ≡ f (at number none k xs)
unfolding at store
at-store_part f number none j k e [] same h = grind (arith, nat_tests)
at-store_part f number none j k e (x ∷ xs) same h = grind (arith, nat_tests, at-store_part f number none j k e xs same)

pub at-store_same : {A : Type 0} (number : A → ℕ) (none : A) (k : ℕ) (e : A) (xs : List A) → number e ≡ k → at number none k (store number k e xs) ≡ e
unfolding at store
at-store_same number none k e [] same = grind (arith, nat_tests)
at-store_same number none k e (x ∷ xs) same = grind (arith, nat_tests, at-store_same number none k e xs same)

pub named-map : {A B : Type 0} (f : A → B) (name : B → List ℕ) (name' : A → List ℕ) (none : A) (n : List ℕ) (xs : List A) → ((x : A) → name (f x) ≡ name' x) → named name (f none) n (map f xs) ≡ f (named name' none n xs)
unfolding named
named-map f name name' none n [] same = refl
named-map f name name' none n (x ∷ xs) same = grind (arith, same x, named-map f name name' none n xs same)

pub map-store_named : {A B : Type 0} (f : A → B) (name : B → List ℕ) (name' : A → List ℕ) (n : List ℕ) (e : A) (xs : List A) → ((x : A) → name (f x) ≡ name' x) → map f (store_named name' n e xs) ≡ store_named name n (f e) (map f xs)
unfolding store_named
map-store_named f name name' n e [] same = refl
map-store_named f name name' n e (x ∷ xs) same = grind (arith, same x, map-store_named f name name' n e xs same)

-- a part of the thing with any name, where the new thing has that of the old one
pub named-store_part : {A B : Type 0} (f : A → B) (name : A → List ℕ) (none none' : A) (n k : List ℕ) (e : A) (xs : List A) → has_name name n xs ≡ true → name e ≡ n → f e ≡ f (named name none' n xs) → f (named name none k (store_named name n e xs)) ≡ f (named name none k xs)
unfolding named store_named has_name
named-store_part f name none none' n k e [] there h same = absurd (cc)
named-store_part f name none none' n k e (x ∷ xs) there h same = grind (arith, name_tells (name x) n, name_tells (name x) k, name_tells (name e) k, named-store_part f name none none' n k e xs)

-- ---- things found by a number

-- a number that is not there
pub count-absent : {A : Type 0} (number : A → ℕ) (k : ℕ) (xs : List A) → has number k xs ≡ false → count_by (λ x. number x == k) xs ≡ 0
unfolding has
count-absent number k [] h = refl
count-absent number k (x ∷ xs) h = grind (arith, nat_tests, count_by-cons (λ y. number y == k) x xs, count-absent number k xs)

-- a part of the thing with a number, where one more thing at the end has what `none` has
pub at-push_part : {A B : Type 0} (f : A → B) (number : A → ℕ) (none : A) (k : ℕ) (e : A) (xs : List A) → f e ≡ f none → f (at number none k (xs ++ e ∷ [])) ≡ f (at number none k xs)
unfolding at
at-push_part f number none k e [] h = grind (arith, h)
at-push_part f number none k e (x ∷ xs) h = grind (arith, at-push_part f number none k e xs h)

pub map-store_at : {A B : Type 0} (f : A → B) (number : A → ℕ) (none : A) (k : ℕ) (e : A) (xs : List A) → has number k xs ≡ true → f e ≡ f (at number none k xs) → map f (store number k e xs) ≡ map f xs
unfolding has at store
map-store_at f number none k e [] there h = absurd (cc)
map-store_at f number none k e (x ∷ xs) there h = grind (arith, nat_tests, map-store_at f number none k e xs)

pub flat_map-store_at : {A B : Type 0} (f : A → List B) (number : A → ℕ) (none : A) (k : ℕ) (e : A) (xs : List A) → has number k xs ≡ true → f e ≡ f (at number none k xs) → flat_map f (store number k e xs) ≡ flat_map f xs
unfolding has at store
flat_map-store_at f number none k e [] there h = absurd (cc)
flat_map-store_at f number none k e (x ∷ xs) there h = grind (arith, nat_tests, flat_map-store_at f number none k e xs)

pub some-at : {A : Type 0} (test : A → Bool) (number : A → ℕ) (none : A) (k : ℕ) (xs : List A) → has number k xs ≡ true → some test xs ≡ false → test (at number none k xs) ≡ false
unfolding has at some
some-at test number none k [] there h = absurd (cc)
some-at test number none k (x ∷ xs) there h = grind (arith, nat_tests, some-at test number none k xs)

pub number-at : {A : Type 0} (number : A → ℕ) (none : A) (k : ℕ) (xs : List A) → has number k xs ≡ true → number (at number none k xs) ≡ k
unfolding has at
number-at number none k [] there = absurd (cc)
number-at number none k (x ∷ xs) there = grind (arith, nat_tests, eqb_tells (number x) k, number-at number none k xs)

-- what is true of each thing in each part is true of those in the part of the thing with a number
pub has_name-at : {A B : Type 0} (parts : A → List B) (name : B → List ℕ) (number : A → ℕ) (none : A) (n : List ℕ) (k : ℕ) (xs : List A) → has number k xs ≡ true → has_name name n (parts (at number none k xs)) ≡ true → has_name name n (flat_map parts xs) ≡ true
unfolding has at
has_name-at parts name number none n k [] there h = absurd (cc)
has_name-at parts name number none n k (x ∷ xs) there h = grind (arith, nat_tests, has_name-append name n (parts x) (flat_map parts xs), has_name-at parts name number none n k xs)

-- ---- names that stand once

pub once_store : {A : Type 0} (name : A → List ℕ) (none : A) (n k : List ℕ) (e : A) (xs : List A) → has_name name n xs ≡ true → name e ≡ n → count_by (λ x. bytes_eq (name x) k) (store_named name n e xs) ≡ count_by (λ x. bytes_eq (name x) k) xs
unfolding has_name store_named
once_store name none n k e [] there h = absurd (cc)
once_store name none n k e (x ∷ xs) there h = grind (arith, name_tells (name x) n, count_by-cons (λ y. bytes_eq (name y) k) x xs, count_by-cons (λ y. bytes_eq (name y) k) e xs, count_by-cons (λ y. bytes_eq (name y) k) x (store_named name n e xs), once_store name none n k e xs)

lacking_count : {A : Type 0} (name : A → List ℕ) (n : List ℕ) (xs : List A) → has_name name n xs ≡ false → count_by (λ x. bytes_eq (name x) n) xs ≡ 0
unfolding has_name
lacking_count name n [] h = refl
lacking_count name n (x ∷ xs) h = grind (arith, count_by-cons (λ y. bytes_eq (name y) n) x xs, lacking_count name n xs)

pub once_push : {A : Type 0} (name : A → List ℕ) (e : A) (xs : List A) (k : List ℕ) → has_name name (name e) xs ≡ false → count_by (λ x. bytes_eq (name x) k) xs ≤ 1 → count_by (λ x. bytes_eq (name x) k) (xs ++ e ∷ []) ≤ 1
once_push name e xs k fresh once = elim (name_tells (name e) k) [
  | inl h ↦
      let none : count_by (λ x. bytes_eq (name x) k) xs ≡ 0 = subst (λ j. count_by (λ x. bytes_eq (name x) j) xs ≡ 0) h.1 (lacking_count name (name e) xs fresh) in
      grind (arith, h.0, none, sum_by_push (λ x. if bytes_eq (name x) k then 1 else 0) xs e)
  | inr h ↦ grind (arith, h.0, once, sum_by_push (λ x. if bytes_eq (name x) k then 1 else 0) xs e)
]
