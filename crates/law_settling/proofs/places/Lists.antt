-- One thing of a list put in the place of another.
use Rattle.std.proofs.Common.{arith, ◌≡◌, ◌≢◌, ◌<◌, ◌+◌, ℕ, zero, suc, List, [], ◌∷◌, length, map, true, false, Bool, refl, sym, ap, ◌∙◌, subst, get_or}
use Rattle.std.specs.Prelude.{AllPairs, Some, None, slice_get, bytes_eq, nat_eq, nat_lt, if◌then◌else◌, ◌==◌, ◌||◌}
use Rattle.std.specs.List.{AllByRecursion, IsDistinct, position, position_or_len}
use Rattle.std.proofs.Math.ListN.{set}
use Rattle.std.proofs.lemmas.Bool.Decides.{nat_tests}
use Rattle.std.proofs.lemmas.List.Quantifiers.{position-Some}
use Rattle.std.proofs.lemmas.List.Recursion.{is_position_or_len}
use Rattle.std.proofs.lemmas.Option.{get_or_from_slice_get}
use Rattle.rdma_types.specs.Lists.{first_that, has_name, named, store, store_named}
use Rattle.rdma_types.proofs.Tables.{name_is, same_name}
use Rattle.law_devices.proofs.Founds.{map_at}
use Rattle.law_devices.proofs.Pairs.{AllPairs-first, AllPairs-tail}
use Rattle.law_devices.proofs.Regions.{All-at}

-- ---- what is at a place

pub the_same : {A : Type 0} (x y : A) → Some x ≡ Some y → x ≡ y
the_same x y h = cc

pub at_place : {A : Type 0} (xs : List A) (k : ℕ) (x y : A) → slice_get xs k ≡ Some x → slice_get (set xs k y) k ≡ Some y
at_place [] k x y h = absurd (cc)
at_place (z ∷ zs) zero x y h = refl
at_place (z ∷ zs) (suc k) x y h = at_place zs k x y h

pub map_place : {A B : Type 0} (f : A → B) (xs : List A) (k : ℕ) (x y : A) → slice_get xs k ≡ Some x → f y ≡ f x → map f (set xs k y) ≡ map f xs
map_place f [] k x y h same = absurd (cc)
map_place f (z ∷ zs) zero x y h same = ap (λ b. b ∷ map f zs) (same ∙ ap f (sym (the_same z x h)))
map_place f (z ∷ zs) (suc k) x y h same = ap (λ bs. f z ∷ bs) (map_place f zs k x y h same)

-- a thing put where it is
pub same_place : {A : Type 0} (xs : List A) (k : ℕ) (x : A) → slice_get xs k ≡ Some x → set xs k x ≡ xs
same_place [] k x h = absurd (cc)
same_place (z ∷ zs) zero x h = ap (λ y. y ∷ zs) (sym (the_same z x h))
same_place (z ∷ zs) (suc k) x h = ap (λ ys. z ∷ ys) (same_place zs k x h)

-- ---- things that are found by a number that no other has

apart : {A : Type 0} (number : A → ℕ) (n k : ℕ) (xs : List A) (x : A) → AllByRecursion (λ m. nat_eq n m ≡ false) (map number xs) → slice_get xs k ≡ Some x → nat_eq n (number x) ≡ false
apart number n k [] x all h = absurd (cc)
apart number n zero (y ∷ ys) x all h = subst (λ z. nat_eq n (number z) ≡ false) (the_same y x h) all.0
apart number n (suc k) (y ∷ ys) x all h = apart number n k ys x all.1 h

pub same_number : (n : ℕ) → (n == n) ≡ true
same_number n = grind (arith, nat_tests)

pub store_place : {A : Type 0} (number : A → ℕ) (xs : List A) (k : ℕ) (x y : A) → IsDistinct nat_eq (map number xs) → slice_get xs k ≡ Some x → store number (number x) y xs ≡ set xs k y
unfolding store IsDistinct
store_place number [] k x y distinct h = absurd (cc)
store_place number (z ∷ zs) zero x y distinct h =
    let is : (number z == number x) ≡ true = ap (λ a. number z == number a) (sym (the_same z x h)) ∙ same_number (number z) in
    ap (λ b. if b then y ∷ zs else z ∷ store number (number x) y zs) is
store_place number (z ∷ zs) (suc k) x y distinct h =
    let other : (number z == number x) ≡ false = apart number (number z) k zs x distinct.0 h in
    ap (λ b. if b then y ∷ zs else z ∷ store number (number x) y zs) other ∙ ap (λ ys. z ∷ ys) (store_place number zs k x y distinct.1 h)

-- ---- the first that passes a test

pub record IsFirst {A : Type 0} (test : A → Bool) (xs : List A) (k : ℕ) (x : A) : Type 0 where
  pub here : slice_get xs k ≡ Some x
  pub passes : test x ≡ true
  pub later : (y : A) → test y ≡ true → first_that test (set xs k y) ≡ Some y

pub first_place : {A : Type 0} (test : A → Bool) (xs : List A) (x : A) → first_that test xs ≡ Some x → (k : ℕ) × IsFirst test xs k x
unfolding first_that
first_place test [] x h = absurd (cc)
first_place {A} test (z ∷ zs) x h = by_test (test z) refl h (first_place test zs x)
  where
    by_test : (b : Bool) → test z ≡ b → (if b then Some z else first_that test zs) ≡ Some x → (first_that test zs ≡ Some x → (k : ℕ) × IsFirst test zs k x) → (k : ℕ) × IsFirst test (z ∷ zs) k x
    by_test true t i rest = (
      zero,
      record {
        here = i;
        passes = ap test (sym (the_same z x i)) ∙ t;
        later = λ y p. ap (λ b. if b then Some y else first_that test zs) p;
      },
    )
    by_test false t i rest =
        let r : (k : ℕ) × IsFirst test zs k x = rest i in (
          suc r.0,
          record {
            here = r.1.here;
            passes = r.1.passes;
            later = λ y p. ap (λ b. if b then Some z else first_that test (set zs r.0 y)) t ∙ r.1.later y p;
          },
        )

first_by : {A : Type 0} (test : A → Bool) (xs : List A) (k : ℕ) (x : A) → slice_get xs k ≡ Some x → test x ≡ true → ((j : ℕ) → j < k → test (get_or xs j x) ≡ false) → first_that test xs ≡ Some x
unfolding first_that
first_by test [] k x h t before = absurd (cc)
first_by test (z ∷ zs) zero x h t before = ap (λ b. if b then Some z else first_that test zs) (ap test (the_same z x h) ∙ t) ∙ h
first_by test (z ∷ zs) (suc k) x h t before =
    ap (λ b. if b then Some z else first_that test zs) (before zero (omega arith))
    ∙ first_by test zs k x h t (λ j l. before (suc j) (omega (arith, l)))

-- what is at the position is the first that passes
pub position_first : {A : Type 0} (test : A → Bool) (xs : List A) (k : ℕ) (x : A) → position test xs ≡ Some k → slice_get xs k ≡ Some x → (first_that test xs ≡ Some x) × (test x ≡ true)
position_first test xs k x h there =
    let p = position-Some test xs k x h in
    let passes : test x ≡ true = ap test (sym (get_or_from_slice_get xs k x x there)) ∙ p.1 in
    (first_by test xs k x there passes p.2, passes)

-- positions by the answers of the test
place_or_len : List Bool → ℕ
place_or_len [] = 0
place_or_len (b ∷ bs) = if b then 0 else 1 + place_or_len bs

position_by : {A : Type 0} (test : A → Bool) (xs : List A) → place_or_len (map test xs) ≡ position_or_len test xs
unfolding place_or_len
position_by test xs = is_position_or_len (λ ys. place_or_len (map test ys)) test refl (λ y ys. refl) xs

length_map : {A B : Type 0} (f : A → B) (xs : List A) → length (map f xs) ≡ length xs
length_map f [] = refl
length_map f (x ∷ xs) = ap suc (length_map f xs)

pub position_same : {A B : Type 0} (p : A → Bool) (q : B → Bool) (xs : List A) (ys : List B) → map p xs ≡ map q ys → position p xs ≡ position q ys
position_same p q xs ys h =
    let places : position_or_len p xs ≡ position_or_len q ys = sym (position_by p xs) ∙ (ap place_or_len h ∙ position_by q ys) in
    let lengths : length xs ≡ length ys = sym (length_map p xs) ∙ (ap length h ∙ length_map q ys) in
    λ i. if nat_lt (places i) (lengths i) then Some (places i) else None

-- ---- things that are found by name

-- the thing of a name is at a place, and what is stored under the name goes there
pub record IsNamedAt {A : Type 0} (name : A → List ℕ) (none : A) (n : List ℕ) (xs : List A) (k : ℕ) (x : A) : Type 0 where
  pub here : slice_get xs k ≡ Some x
  pub called : name x ≡ n
  pub is : named name none n xs ≡ x
  pub stored : (y : A) → store_named name n y xs ≡ set xs k y

pub named_place : {A : Type 0} (name : A → List ℕ) (none : A) (n : List ℕ) (xs : List A) → has_name name n xs ≡ true → (k : ℕ) × (x : A) × IsNamedAt name none n xs k x
unfolding has_name named store_named
named_place name none n [] h = absurd (cc)
named_place {A} name none n (z ∷ zs) h = by_test (bytes_eq (name z) n) refl h (named_place name none n zs)
  where
    name_of : bytes_eq (name z) n ≡ true → name z ≡ n
    name_of t = name_is (name z) n t

    by_test : (b : Bool) → bytes_eq (name z) n ≡ b → (b || has_name name n zs) ≡ true → (has_name name n zs ≡ true → (k : ℕ) × (x : A) × IsNamedAt name none n zs k x) → (k : ℕ) × (x : A) × IsNamedAt name none n (z ∷ zs) k x
    by_test true t i rest = (
      zero,
      z,
      record {
        here = refl;
        called = name_of t;
        is = ap (λ b. if b then z else named name none n zs) t;
        stored = λ y. ap (λ b. if b then y ∷ zs else z ∷ store_named name n y zs) t;
      },
    )
    by_test false t i rest =
        let r : (k : ℕ) × (x : A) × IsNamedAt name none n zs k x = rest i in (
          suc r.0,
          r.1,
          record {
            here = r.2.here;
            called = r.2.called;
            is = ap (λ b. if b then z else named name none n zs) t ∙ r.2.is;
            stored = λ y. ap (λ b. if b then y ∷ zs else z ∷ store_named name n y zs) t ∙ ap (λ ys. z ∷ ys) (r.2.stored y);
          },
        )

-- a thing among others of other names is the one of its name
pub named_there : {A : Type 0} (name : A → List ℕ) (none : A) (xs : List A) (k : ℕ) (x : A) → AllPairs (λ a b. a ≢ b) (map name xs) → slice_get xs k ≡ Some x → IsNamedAt name none (name x) xs k x
unfolding named store_named
named_there name none [] k x distinct h = absurd (cc)
named_there {A} name none (z ∷ zs) zero x distinct h =
    let same : z ≡ x = the_same z x h in
    let is_it : bytes_eq (name z) (name x) ≡ true = ap (λ (a : A). bytes_eq (name z) (name a)) (sym same) ∙ same_name (name z) in
    record {
      here = h;
      called = refl;
      is = ap (λ b. if b then z else named name none (name x) zs) is_it ∙ same;
      stored = λ y. ap (λ b. if b then y ∷ zs else z ∷ store_named name (name x) y zs) is_it;
    }
named_there {A} name none (z ∷ zs) (suc k) x distinct h =
    let r : IsNamedAt name none (name x) zs k x = named_there name none zs k x (AllPairs-tail (λ a b. a ≢ b) (name z) (map name zs) distinct) h in
    let apart_from : name z ≢ name x = All-at (λ b. name z ≢ b) (map name zs) k (name x) (AllPairs-first (λ a b. a ≢ b) (name z) (map name zs) distinct) (map_at name zs k x h) in
    let other : bytes_eq (name z) (name x) ≡ false = not_equal (name z) (name x) apart_from in
    record {
      here = r.here;
      called = refl;
      is = ap (λ b. if b then z else named name none (name x) zs) other ∙ r.is;
      stored = λ y. ap (λ b. if b then y ∷ zs else z ∷ store_named name (name x) y zs) other ∙ ap (λ ys. z ∷ ys) (r.stored y);
    }
  where
    not_equal : (a b : List ℕ) → a ≢ b → bytes_eq a b ≡ false
    not_equal a b ne = by (bytes_eq a b) refl
      where
        by : (t : Bool) → bytes_eq a b ≡ t → t ≡ false
        by false e = refl
        by true e = absurd (ne (name_is a b e))
