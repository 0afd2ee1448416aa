-- Where things stand in lists.
use Rattle.std.proofs.Common.{◌≡◌, ℕ, zero, suc, ◌+◌, ◌<◌, ◌≤◌, ◌==◌, ◌||◌, List, [], ◌∷◌, ◌++◌, length, map, drop, Bool, true, false, Option, Some, None, refl, sym, ap, ◌∙◌, subst, arith, nat_eq, nat_lt, bytes_eq, slice_get, is_some, if◌then◌else◌, reverse, get_or}
use Rattle.std.specs.Prelude.{All, IfSome}
use Rattle.std.specs.List.{position, list_any, IsDistinct, AllByRecursion, find, remove}
use Rattle.std.specs.Option.{option_map}
use Rattle.std.proofs.Math.ListN.{set}
use Rattle.std.proofs.lemmas.Bool.Decides.{nat_tests}
use Rattle.std.proofs.lemmas.List.{get_or-set_same}
use Rattle.std.proofs.lemmas.List.Elements.{All-cons, All-head, All-tail}
use Rattle.std.proofs.lemmas.List.Recursion.{is_position_or_len}
use Rattle.std.proofs.lemmas.List.Sorted.{list_any-IsPermutation, IsPermutation-reverse}
use Rattle.rdma_types.specs.Lists.{at, store, has, has_name, has_word, first_that, some, without}
use Rattle.rdma_types.specs.declared.names.Name.{Name}

-- ---- words of a list

-- a name is a word of a list, as a test finds it
has_word-any : (n : Name) (xs : List Name) → has_word n xs ≡ list_any (λ x. bytes_eq x n) xs
unfolding has_name
has_word-any n [] = refl
has_word-any n (x ∷ xs) = ap (λ b. bytes_eq x n || b) (has_word-any n xs)

-- .. whatever their order
pub has_word-reverse : (n : Name) (xs : List Name) → has_word n (reverse xs) ≡ list_any (λ x. bytes_eq x n) xs
has_word-reverse n xs = has_word-any n (reverse xs) ∙ sym (list_any-IsPermutation (λ x. bytes_eq x n) xs (reverse xs) (IsPermutation-reverse xs))

pub some-any : {A : Type 0} (test : A → Bool) (xs : List A) → some test xs ≡ list_any test xs
unfolding some
some-any test [] = refl
some-any test (x ∷ xs) = ap (λ b. test x || b) (some-any test xs)

-- ---- the first place whose thing passes a test

-- it, by recursion
place_or_len : {A : Type 0} → (A → Bool) → List A → ℕ
place_or_len test [] = 0
place_or_len test (x ∷ xs) = if test x then 0 else 1 + place_or_len test xs

first_place : {A : Type 0} → (A → Bool) → List A → Option ℕ
first_place test [] = None
first_place test (x ∷ xs) = if test x then Some 0 else option_map suc (first_place test xs)

place_by_len : {A : Type 0} (test : A → Bool) (xs : List A) → (if nat_lt (place_or_len test xs) (length xs) then Some (place_or_len test xs) else None) ≡ first_place test xs
unfolding first_place place_or_len
place_by_len test [] = refl
place_by_len {A} test (x ∷ xs) = by_test (test x) (place_by_len test xs)
  where
    later : (k n : ℕ) (o : Option ℕ) → (if nat_lt k n then Some k else None) ≡ o → (if nat_lt (1 + k) (suc n) then Some (1 + k) else None) ≡ option_map suc o
    later k n o h = by (nat_lt k n) refl h
      where
        by : (b : Bool) → nat_lt k n ≡ b → (if b then Some k else None) ≡ o → (if nat_lt (1 + k) (suc n) then Some (1 + k) else None) ≡ option_map suc o
        by true lt e = rw (← e) (grind (arith, nat_tests))
        by false lt e = rw (← e) (grind (arith, nat_tests))

    by_test : (b : Bool) → (if nat_lt (place_or_len test xs) (length xs) then Some (place_or_len test xs) else None) ≡ first_place test xs →
        (if nat_lt (if b then 0 else 1 + place_or_len test xs) (suc (length xs)) then Some (if b then 0 else 1 + place_or_len test xs) else None) ≡ (if b then Some 0 else option_map suc (first_place test xs))
    by_test true h = grind (arith, nat_tests)
    by_test false h = later (place_or_len test xs) (length xs) (first_place test xs) h

position-first : {A : Type 0} (test : A → Bool) (xs : List A) → position test xs ≡ first_place test xs
unfolding place_or_len
position-first test xs = ap (λ k. if nat_lt k (length xs) then Some k else None) (sym (is_position_or_len (place_or_len test) test refl (λ x ys. refl) xs)) ∙ place_by_len test xs

-- the thing at the first place is the first that passes
pub record IsFirstPlace {A : Type 0} (test : A → Bool) (xs : List A) (k : ℕ) : Type 0 where
  pub thing : A
  pub here : slice_get xs k ≡ Some thing
  pub first : first_that test xs ≡ Some thing
  pub passes : test thing ≡ true
  pub within : k < length xs

spot_more : {A : Type 0} (test : A → Bool) (x : A) (xs : List A) (j : ℕ) → test x ≡ false → IsFirstPlace test xs j → IsFirstPlace test (x ∷ xs) (suc j)
unfolding first_that
spot_more test x xs j f s = record {
  thing = s.thing;
  here = s.here;
  first = rw f s.first;
  passes = s.passes;
  within = omega (arith, s.within);
}

spot_by : {A : Type 0} (test : A → Bool) (xs : List A) (k : ℕ) → first_place test xs ≡ Some k → IsFirstPlace test xs k
unfolding first_that first_place
spot_by test [] k h = absurd (cc)
spot_by {A} test (x ∷ xs) k h = by_test (test x) refl h (spot_by test xs)
  where
    on : (o : Option ℕ) → first_place test xs ≡ o → option_map suc o ≡ Some k → test x ≡ false → ((j : ℕ) → first_place test xs ≡ Some j → IsFirstPlace test xs j) → IsFirstPlace test (x ∷ xs) k
    on None e i f later = absurd (cc)
    on (Some j) e i f later = subst (λ z. IsFirstPlace test (x ∷ xs) z) (let e : suc j ≡ k = cc in e) (spot_more test x xs j f (later j e))

    by_test : (b : Bool) → test x ≡ b → (if b then Some 0 else option_map suc (first_place test xs)) ≡ Some k → ((j : ℕ) → first_place test xs ≡ Some j → IsFirstPlace test xs j) → IsFirstPlace test (x ∷ xs) k
    by_test true t i later = subst (λ z. IsFirstPlace test (x ∷ xs) z) (let e : 0 ≡ k = cc in e) (record { thing = x; here = refl; first = rw t refl; passes = t; within = omega arith })
    by_test false t i later = on (first_place test xs) refl i t later

pub spot : {A : Type 0} (test : A → Bool) (xs : List A) (k : ℕ) → position test xs ≡ Some k → IsFirstPlace test xs k
spot test xs k h = spot_by test xs k (sym (position-first test xs) ∙ h)

is_some-first : {A : Type 0} (test : A → Bool) (xs : List A) → is_some (first_place test xs) ≡ some test xs
unfolding some first_place
is_some-first test [] = refl
is_some-first {A} test (y ∷ ys) = by_test (test y) (is_some-first test ys)
  where
    mapped : (o : Option ℕ) → is_some (option_map suc o) ≡ is_some o
    mapped None = refl
    mapped (Some k) = refl

    by_test : (b : Bool) → is_some (first_place test ys) ≡ some test ys → is_some (if b then Some 0 else option_map suc (first_place test ys)) ≡ (b || some test ys)
    by_test true h = refl
    by_test false h = mapped (first_place test ys) ∙ h

-- there is a place where some thing passes
pub is_some-position : {A : Type 0} (test : A → Bool) (xs : List A) → is_some (position test xs) ≡ some test xs
is_some-position test xs = ap (λ o. is_some o) (position-first test xs) ∙ is_some-first test xs

-- .. and behind others
first_place-push-old : {A : Type 0} (test : A → Bool) (xs : List A) (x : A) → test x ≡ false → first_place test (xs ++ x ∷ []) ≡ first_place test xs
unfolding first_place
first_place-push-old test [] x h = rw h refl
first_place-push-old test (y ∷ ys) x h = ap (λ o. if test y then Some 0 else option_map suc o) (first_place-push-old test ys x h)

first_place-push-new : {A : Type 0} (test : A → Bool) (xs : List A) (x : A) → some test xs ≡ false → test x ≡ true → first_place test (xs ++ x ∷ []) ≡ Some (length xs)
unfolding first_place some
first_place-push-new test [] x none h = rw h refl
first_place-push-new {A} test (y ∷ ys) x none h = by_test (test y) none (λ later. first_place-push-new test ys x later h)
  where
    by_test : (b : Bool) → (b || some test ys) ≡ false → (some test ys ≡ false → first_place test (ys ++ x ∷ []) ≡ Some (length ys)) → (if b then Some 0 else option_map suc (first_place test (ys ++ x ∷ []))) ≡ Some (suc (length ys))
    by_test true i later = absurd (cc)
    by_test false i later = ap (λ o. option_map suc o) (later i)

pub position-push-old : {A : Type 0} (test : A → Bool) (xs : List A) (x : A) → test x ≡ false → position test (xs ++ x ∷ []) ≡ position test xs
position-push-old test xs x h = position-first test (xs ++ x ∷ []) ∙ (first_place-push-old test xs x h ∙ sym (position-first test xs))

pub position-push-new : {A : Type 0} (test : A → Bool) (xs : List A) (x : A) → some test xs ≡ false → test x ≡ true → position test (xs ++ x ∷ []) ≡ Some (length xs)
position-push-new test xs x none h = position-first test (xs ++ x ∷ []) ∙ first_place-push-new test xs x none h

pub position-none : {A : Type 0} (test : A → Bool) → position test [] ≡ None
unfolding first_place
position-none test = position-first test []

-- where no thing passes there is no first one
pub none_passes : {A : Type 0} (test : A → Bool) (xs : List A) → some test xs ≡ false → first_that test xs ≡ None
unfolding some first_that
none_passes test [] h = refl
none_passes test (x ∷ xs) h = by_test (test x) h (none_passes test xs)
  where
    by_test : (b : Bool) → (b || some test xs) ≡ false → (some test xs ≡ false → first_that test xs ≡ None) → (if b then Some x else first_that test xs) ≡ None
    by_test true i later = absurd (cc)
    by_test false i later = later i

-- ---- things with numbers and names

pub has-some : {A : Type 0} (number : A → ℕ) (k : ℕ) (xs : List A) → has number k xs ≡ some (λ x. number x == k) xs
unfolding has some
has-some number k [] = refl
has-some number k (x ∷ xs) = ap (λ b. (number x == k) || b) (has-some number k xs)

pub has_name-some : {A : Type 0} (name : A → Name) (n : Name) (xs : List A) → has_name name n xs ≡ some (λ x. bytes_eq (name x) n) xs
unfolding has_name some
has_name-some name n [] = refl
has_name-some name n (x ∷ xs) = ap (λ b. bytes_eq (name x) n || b) (has_name-some name n xs)

-- the thing with a number is the first with it
pub at-first : {A : Type 0} (number : A → ℕ) (none : A) (k : ℕ) (xs : List A) (x : A) → first_that (λ y. number y == k) xs ≡ Some x → at number none k xs ≡ x
unfolding at first_that
at-first number none k [] x h = absurd (cc)
at-first {A} number none k (y ∷ ys) x h = by_test (number y == k) h (at-first number none k ys x)
  where
    by_test : (b : Bool) → (if b then Some y else first_that (λ z. number z == k) ys) ≡ Some x → (first_that (λ z. number z == k) ys ≡ Some x → at number none k ys ≡ x) → (if b then y else at number none k ys) ≡ x
    by_test true i later = cc
    by_test false i later = later i

-- ---- another thing at a place

apart : {A : Type 0} (number : A → ℕ) (n k : ℕ) (xs : List A) (x : A) → AllByRecursion (λ m. nat_eq n m ≡ false) (map number xs) → slice_get xs k ≡ Some x → nat_eq n (number x) ≡ false
apart number n k [] x all h = absurd (cc)
apart number n zero (y ∷ ys) x all h = subst (λ z. nat_eq n (number z) ≡ false) (cc) all.0
apart number n (suc k) (y ∷ ys) x all h = apart number n k ys x all.1 h

same_number : (n : ℕ) → (n == n) ≡ true
same_number n = grind (arith, nat_tests)

-- where numbers stand once, what is stored under the number of the thing at a place goes to that place
pub store-place : {A : Type 0} (number : A → ℕ) (k : ℕ) (xs : List A) (x e : A) → IsDistinct nat_eq (map number xs) → slice_get xs k ≡ Some x → store number (number x) e xs ≡ set xs k e
unfolding store IsDistinct
store-place number k [] x e distinct h = absurd (cc)
store-place number zero (y ∷ ys) x e distinct h =
    let same : y ≡ x = cc in
    subst (λ z. store number (number z) e (y ∷ ys) ≡ e ∷ ys) same (rw (same_number (number y)) refl)
store-place number (suc k) (y ∷ ys) x e distinct h =
    let other : (number y == number x) ≡ false = apart number (number y) k ys x distinct.0 h in
    rw other (ap (λ zs. y ∷ zs) (store-place number k ys x e distinct.1 h))

-- .. and that thing is the one of its number
pub at-place : {A : Type 0} (number : A → ℕ) (none : A) (k : ℕ) (xs : List A) (x : A) → IsDistinct nat_eq (map number xs) → slice_get xs k ≡ Some x → at number none (number x) xs ≡ x
unfolding at IsDistinct
at-place number none k [] x distinct h = absurd (cc)
at-place {A} number none zero (y ∷ ys) x distinct h =
    let same : y ≡ x = cc in
    ap (λ b. if b then y else at number none (number x) ys) (ap (λ (z : A). number y == number z) (sym same) ∙ same_number (number y)) ∙ same
at-place number none (suc k) (y ∷ ys) x distinct h =
    let other : (number y == number x) ≡ false = apart number (number y) k ys x distinct.0 h in
    ap (λ b. if b then y else at number none (number x) ys) other ∙ at-place number none k ys x distinct.1 h

-- the numbers stay
pub map-place : {A B : Type 0} (f : A → B) (k : ℕ) (xs : List A) (x e : A) → slice_get xs k ≡ Some x → f e ≡ f x → map f (set xs k e) ≡ map f xs
map-place f k [] x e h same = absurd (cc)
map-place f zero (y ∷ ys) x e h same = ap (λ z. z ∷ map f ys) (same ∙ ap f (cc))
map-place f (suc k) (y ∷ ys) x e h same = ap (λ z. f y ∷ z) (map-place f k ys x e h same)

-- .. and a new one differs from all
pub distinct-push : {A : Type 0} (number : A → ℕ) (xs : List A) (e : A) → IsDistinct nat_eq (map number xs) → has number (number e) xs ≡ false → IsDistinct nat_eq (map number (xs ++ e ∷ []))
unfolding has IsDistinct
distinct-push number [] e distinct h = (tt, tt)
distinct-push {A} number (x ∷ xs) e distinct h =
    (pushed (λ m. nat_eq (number x) m ≡ false) xs distinct.0 (or_left _ _ h), distinct-push number xs e distinct.1 (or_right _ _ h))
  where
    or_left : (a b : Bool) → (a || b) ≡ false → a ≡ false
    or_left true b i = absurd (cc)
    or_left false b i = refl

    or_right : (a b : Bool) → (a || b) ≡ false → b ≡ false
    or_right true b i = absurd (cc)
    or_right false b i = i

    pushed : (P : ℕ → Type 0) (ys : List A) → AllByRecursion P (map number ys) → P (number e) → AllByRecursion P (map number (ys ++ e ∷ []))
    pushed P [] all here = (here, tt)
    pushed P (y ∷ ys) all here = (all.0, pushed P ys all.1 here)

-- ---- a thing less

without-first : {A : Type 0} (name : A → Name) (n : Name) (xs : List A) (k : ℕ) → first_place (λ x. bytes_eq (name x) n) xs ≡ Some k → without name n xs ≡ remove xs k
unfolding without first_place
without-first name n [] k h = absurd (cc)
without-first {A} name n (x ∷ xs) k h = by_test (bytes_eq (name x) n) h (without-first name n xs)
  where
    on : (o : Option ℕ) → first_place (λ y. bytes_eq (name y) n) xs ≡ o → option_map suc o ≡ Some k → ((j : ℕ) → first_place (λ y. bytes_eq (name y) n) xs ≡ Some j → without name n xs ≡ remove xs j) → x ∷ without name n xs ≡ remove (x ∷ xs) k
    on None e i later = absurd (cc)
    on (Some j) e i later = subst (λ z. x ∷ without name n xs ≡ remove (x ∷ xs) z) (let e : suc j ≡ k = cc in e) (ap (λ z. x ∷ z) (later j e))

    by_test : (b : Bool) → (if b then Some 0 else option_map suc (first_place (λ y. bytes_eq (name y) n) xs)) ≡ Some k → ((j : ℕ) → first_place (λ y. bytes_eq (name y) n) xs ≡ Some j → without name n xs ≡ remove xs j) → (if b then xs else x ∷ without name n xs) ≡ remove (x ∷ xs) k
    by_test true i later = subst (λ z. xs ≡ remove (x ∷ xs) z) (let e : 0 ≡ k = cc in e) refl
    by_test false i later = on (first_place (λ y. bytes_eq (name y) n) xs) refl i later

-- the list without the thing of a name is the one without its place
pub without-place : {A : Type 0} (name : A → Name) (n : Name) (xs : List A) (k : ℕ) → position (λ x. bytes_eq (name x) n) xs ≡ Some k → without name n xs ≡ remove xs k
without-place name n xs k h = without-first name n xs k (sym (position-first (λ x. bytes_eq (name x) n) xs) ∙ h)

-- ---- a test of which another thing at a place knows nothing

first_place-map : {A : Type 0} (test : A → Bool) (xs : List A) → first_place test xs ≡ first_place (λ b. b) (map test xs)
unfolding first_place
first_place-map test [] = refl
first_place-map test (x ∷ xs) = ap (λ o. if test x then Some 0 else option_map suc o) (first_place-map test xs)

pub position-set : {A : Type 0} (test : A → Bool) (k : ℕ) (xs : List A) (x e : A) → slice_get xs k ≡ Some x → test e ≡ test x → position test (set xs k e) ≡ position test xs
position-set test k xs x e h same =
    position-first test (set xs k e) ∙ (first_place-map test (set xs k e)
    ∙ (ap (λ bs. first_place (λ b. b) bs) (map-place test k xs x e h same)
    ∙ (sym (first_place-map test xs) ∙ sym (position-first test xs))))

-- things at one place of the two lists are related as the two things are
pub set_relates : {A : Type 0} (R : A → A → Type 0) → ((a : A) → R a a) → (xs : List A) (p k : ℕ) (d e x y : A) → slice_get xs p ≡ Some d → R d e → slice_get xs k ≡ Some x → slice_get (set xs p e) k ≡ Some y → R x y
set_relates R same [] p k d e x y h r i j = absurd (cc)
set_relates R same (z ∷ zs) zero zero d e x y h r i j = subst (λ b. R x b) (let q : e ≡ y = cc in q) (subst (λ b. R b e) (let q : d ≡ x = cc in q) r)
set_relates R same (z ∷ zs) zero (suc k) d e x y h r i j = subst (λ b. R x b) (let q : x ≡ y = cc in q) (same x)
set_relates R same (z ∷ zs) (suc p) zero d e x y h r i j = subst (λ b. R x b) (let q : x ≡ y = cc in q) (same x)
set_relates R same (z ∷ zs) (suc p) (suc k) d e x y h r i j = set_relates R same zs p k d e x y h r i j

-- ---- the first thing that passes, as std finds it

pub first_that-find : {A : Type 0} (test : A → Bool) (xs : List A) → first_that test xs ≡ find test xs
unfolding first_that
first_that-find test [] = refl
first_that-find test (x ∷ xs) = ap (λ o. if test x then Some x else o) (first_that-find test xs)

-- what is found has what all things have
pub find_keeps : {A : Type 0} (P : A → Type 0) (test : A → Bool) (xs : List A) → All P xs → IfSome (find test xs) P
find_keeps P test [] all = tt
find_keeps {A} P test (x ∷ xs) all = by_test (test x) (find_keeps P test xs (All-tail P x xs all))
  where
    by_test : (b : Bool) → IfSome (find test xs) P → IfSome (if b then Some x else find test xs) P
    by_test true later = All-head P x xs all
    by_test false later = later

pub at-absent : {A : Type 0} (number : A → ℕ) (none : A) (k : ℕ) (xs : List A) → has number k xs ≡ false → at number none k xs ≡ none
unfolding at has
at-absent number none k [] h = refl
at-absent number none k (x ∷ xs) h = by_test (number x == k) h (at-absent number none k xs)
  where
    by_test : (b : Bool) → (b || has number k xs) ≡ false → (has number k xs ≡ false → at number none k xs ≡ none) → (if b then x else at number none k xs) ≡ none
    by_test true i later = absurd (cc)
    by_test false i later = later i

-- ---- a list from a place on

pub some-drop : {A : Type 0} (test : A → Bool) (xs : List A) (k : ℕ) (x : A) → slice_get xs k ≡ Some x → some test (drop k xs) ≡ (test x || some test (drop (suc k) xs))
unfolding some
some-drop test [] k x h = absurd (cc)
some-drop test (y ∷ ys) zero x h = ap (λ z. test z || some test ys) (let q : y ≡ x = cc in q)
some-drop test (y ∷ ys) (suc k) x h = some-drop test ys k x h

pub some-end : {A : Type 0} (test : A → Bool) (xs : List A) (k : ℕ) → length xs ≤ k → some test (drop k xs) ≡ false
unfolding some
some-end test [] zero h = refl
some-end test [] (suc k) h = refl
some-end test (x ∷ xs) zero h = absurd (omega (arith, h))
some-end test (x ∷ xs) (suc k) h = some-end test xs k (omega (arith, h))

pub All-remove : {A : Type 0} (P : A → Type 0) (xs : List A) (k : ℕ) → All P xs → All P (remove xs k)
All-remove P [] zero all = all
All-remove P [] (suc k) all = all
All-remove P (x ∷ xs) zero all = All-tail P x xs all
All-remove P (x ∷ xs) (suc k) all = All-cons P x (remove xs k) (All-head P x xs all) (All-remove P xs k (All-tail P x xs all))

-- ---- the thing that was put at a place

pub read_set : {A : Type 0} (xs : List A) (k : ℕ) (e y : A) → k < length xs → y ≡ get_or (set xs k e) k y → y ≡ e
read_set xs k e y lt h = h ∙ get_or-set_same xs k e y lt

pub same_thing : {A : Type 0} (x y : A) → Some x ≡ Some y → x ≡ y
same_thing x y h = cc

pub some_there : {A : Type 0} (o : Option A) → is_some o ≡ true → (x : A) × (o ≡ Some x)
some_there None h = absurd (cc)
some_there (Some x) h = (x, refl)

-- ---- a name that no thing has

pub no_place : {A : Type 0} (name : A → Name) (n : Name) (xs : List A) → has_name name n xs ≡ false → position (λ x. bytes_eq (name x) n) xs ≡ None
no_place name n xs none = by (position (λ x. bytes_eq (name x) n) xs) (is_some-position (λ x. bytes_eq (name x) n) xs ∙ (sym (has_name-some name n xs) ∙ none))
  where
    by : (o : Option ℕ) → is_some o ≡ false → o ≡ None
    by None h = refl
    by (Some k) h = absurd (cc)
