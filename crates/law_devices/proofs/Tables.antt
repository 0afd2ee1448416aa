-- Things that are found by name.
use Rattle.std.proofs.Common.{arith, ◌≡◌, ◌≢◌, ◌⊎◌, ◌≤◌, ◌<◌, ◌+◌, ℕ, zero, suc, List, [], ◌∷◌, ◌++◌, map, length, get_or, true, false, Bool, refl, sym, ap, ◌∙◌, inl, inr, subst}
use Rattle.std.specs.Prelude.{bytes_eq, All, AllPairs, Contains, ◌||◌, if◌then◌else◌, Some, sum_by, slice_get}
use Rattle.std.proofs.lemmas.List.{get_or-map}
use Rattle.std.proofs.lemmas.List.Elements.{All-cons, All-head, All-tail}
use Rattle.std.proofs.lemmas.List.Sums.{sum_by-cons}
use Rattle.std.proofs.lemmas.Slice.Eq.{bytes_eq-Decides}
use Rattle.rdma_types.specs.Lists.{named, has_name, has_word, store_named, without}
use Rattle.rdma_types.proofs.Tables.{same_name}

-- what a test of names tells
pub name_tells : (a b : List ℕ) → ((bytes_eq a b ≡ true) × (a ≡ b)) ⊎ ((bytes_eq a b ≡ false) × (a ≢ b))
name_tells a b = by_test (bytes_eq a b) refl
  where
    by_test : (r : Bool) → bytes_eq a b ≡ r → ((bytes_eq a b ≡ true) × (a ≡ b)) ⊎ ((bytes_eq a b ≡ false) × (a ≢ b))
    by_test true h = inl (h, (bytes_eq-Decides a b).0 h)
    by_test false h = inr (h, λ e. absurd (cc ((bytes_eq-Decides a b).1 e, h)))

pub All-if : {A : Type 0} (P : A → Type 0) (b : Bool) (xs ys : List A) → All P xs → All P ys → All P (if b then xs else ys)
All-if P true xs ys h k = h
All-if P false xs ys h k = k

-- ---- what holds of each thing

pub All-store : {A : Type 0} (P : A → Type 0) (name : A → List ℕ) (n : List ℕ) (e : A) (xs : List A) → All P xs → P e → All P (store_named name n e xs)
unfolding store_named
All-store P name n e [] all h = All-cons P e [] h all
All-store P name n e (x ∷ xs) all h =
    All-if P (bytes_eq (name x) n) (e ∷ xs) (x ∷ store_named name n e xs)
    (All-cons P e xs h (All-tail P x xs all))
    (All-cons P x (store_named name n e xs) (All-head P x xs all) (All-store P name n e xs (All-tail P x xs all) h))

pub All-without : {A : Type 0} (P : A → Type 0) (name : A → List ℕ) (n : List ℕ) (xs : List A) → All P xs → All P (without name n xs)
unfolding without
All-without P name n [] all = all
All-without P name n (x ∷ xs) all =
    All-if P (bytes_eq (name x) n) xs (x ∷ without name n xs)
    (All-tail P x xs all)
    (All-cons P x (without name n xs) (All-head P x xs all) (All-without P name n xs (All-tail P x xs all)))

pub All-named : {A : Type 0} (P : A → Type 0) (name : A → List ℕ) (none : A) (n : List ℕ) (xs : List A) → All P xs → has_name name n xs ≡ true → P (named name none n xs)
unfolding named has_name
All-named P name none n [] all h = absurd (cc)
All-named P name none n (x ∷ xs) all h = elim (name_tells (name x) n) [
  | inl t ↦ subst (λ b. P (if b then x else named name none n xs)) (sym t.0) (All-head P x xs all)
  | inr t ↦ subst (λ b. P (if b then x else named name none n xs)) (sym t.0) (All-named P name none n xs (All-tail P x xs all) (subst (λ b. (b || has_name name n xs) ≡ true) t.0 h))
]

-- ---- names

-- the thing that is found has the name
pub name-named_there : {A : Type 0} (name : A → List ℕ) (none : A) (n : List ℕ) (xs : List A) → has_name name n xs ≡ true → name (named name none n xs) ≡ n
unfolding has_name named
name-named_there name none n [] h = absurd (cc)
name-named_there name none n (x ∷ xs) h = grind (arith, name_tells (name x) n, name-named_there name none n xs)

pub has_name-push : {A : Type 0} (name : A → List ℕ) (n : List ℕ) (xs : List A) (e : A) → has_name name n (xs ++ e ∷ []) ≡ (has_name name n xs || bytes_eq (name e) n)
unfolding has_name
has_name-push name n [] e = grind arith
has_name-push name n (x ∷ xs) e = grind (arith, has_name-push name n xs e)

pub has_name-map : {A B : Type 0} (f : A → B) (name : B → List ℕ) (name' : A → List ℕ) (n : List ℕ) (xs : List A) → ((x : A) → name (f x) ≡ name' x) → has_name name n (map f xs) ≡ has_name name' n xs
unfolding has_name
has_name-map f name name' n [] same = refl
has_name-map f name name' n (x ∷ xs) same = grind (arith, same x, has_name-map f name name' n xs same)

-- a word among names
pub word-there : {A : Type 0} (name : A → List ℕ) (n : List ℕ) (xs : List A) → has_word n (map name xs) ≡ has_name name n xs
word-there name n xs = has_name-map name (λ x. x) name n xs (λ x. refl)

-- where a thing is found or not, a new thing at the end changes what is found under its own name alone
pub named-push_has : {A : Type 0} (name : A → List ℕ) (none : A) (n : List ℕ) (xs : List A) (e : A) → has_name name n xs ≡ true → named name none n (xs ++ e ∷ []) ≡ named name none n xs
unfolding has_name named
named-push_has name none n [] e h = absurd (cc)
named-push_has name none n (x ∷ xs) e h = grind (arith, named-push_has name none n xs e)

pub named-push_lacks : {A : Type 0} (name : A → List ℕ) (none : A) (n : List ℕ) (xs : List A) (e : A) → has_name name n xs ≡ false → name e ≡ n → named name none n (xs ++ e ∷ []) ≡ e
unfolding has_name named
named-push_lacks name none n [] e h same = grind (arith, same_name n)
named-push_lacks name none n (x ∷ xs) e h same = grind (arith, named-push_lacks name none n xs e)

-- a part of each thing stays where the new thing has the part of the old one
pub map-store : {A B : Type 0} (f : A → B) (name : A → List ℕ) (none : A) (n : List ℕ) (e : A) (xs : List A) → has_name name n xs ≡ true → f e ≡ f (named name none n xs) → map f (store_named name n e xs) ≡ map f xs
unfolding named store_named has_name
map-store f name none n e [] there h = absurd (cc)
map-store f name none n e (x ∷ xs) there h = grind (arith, name_tells (name x) n, map-store f name none n e xs)

-- a sum over a list with a thing in another's place
pub sum_by-store : {A : Type 0} (f : A → ℕ) (name : A → List ℕ) (none : A) (n : List ℕ) (e : A) (xs : List A) → has_name name n xs ≡ true → sum_by f (store_named name n e xs) + f (named name none n xs) ≡ sum_by f xs + f e
unfolding named store_named has_name
sum_by-store f name none n e [] there = absurd (cc)
sum_by-store f name none n e (x ∷ xs) there = elim (name_tells (name x) n) [
  | inl t ↦ grind (arith, t.0, sum_by-cons f x xs, sum_by-cons f e xs)
  | inr t ↦
      let rest : has_name name n xs ≡ true = subst (λ b. (b || has_name name n xs) ≡ true) t.0 there in
      grind (arith, t.0, sum_by-cons f x xs, sum_by-cons f x (store_named name n e xs), sum_by-store f name none n e xs rest)
]

-- what stands in a list has a place
pub at_place : {A : Type 0} (xs : List A) (x : A) (k : ℕ) → k < length xs → get_or xs k x ≡ x → slice_get xs k ≡ Some x
at_place [] x k l e = absurd (omega (arith, l))
at_place (y ∷ ys) x zero l e = ap Some e
at_place (y ∷ ys) x (suc k) l e = at_place ys x k (omega (arith, l)) e
