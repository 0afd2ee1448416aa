-- The first difference that is there, as it is looked for.
use Rattle.std.proofs.Common.{◌≡◌, ℕ, zero, suc, ◌+◌, ◌<◌, ◌≤◌, List, [], ◌∷◌, length, drop, get_or, refl, ap, sym, ◌∙◌, add-one, arith}
use Rattle.std.specs.Prelude.{Option, Some, None, true, false, is_some, map, min, slice_get}
use Rattle.std.proofs.lemmas.Option.{slice_get-get_or, slice_get-map}
use Rattle.std.proofs.lemmas.List.{length-map}
use Rattle.std.specs.Option.{option_map, option_or}
use Rattle.device_differences.specs.Differing.{first_of, apart, pairwise, across, between, maybe}

-- the first one is there
pub first-found : (o : Option (ℕ × ℕ)) (os : List (Option (ℕ × ℕ))) (p : ℕ × ℕ) → o ≡ Some p → first_of (o ∷ os) ≡ Some p
unfolding first_of
first-found o os p e = ap (λ v. option_or v (first_of os)) e

-- the first one is not there
pub first-passed : (o : Option (ℕ × ℕ)) (os : List (Option (ℕ × ℕ))) → o ≡ None → first_of (o ∷ os) ≡ first_of os
unfolding first_of
first-passed o os e = ap (λ v. option_or v (first_of os)) e

or-none : (o : Option (ℕ × ℕ)) → option_or o None ≡ o
or-none None = refl
or-none (Some p) = refl

-- the last one
pub first-last : (o : Option (ℕ × ℕ)) → first_of (o ∷ []) ≡ o
unfolding first_of
first-last o = or-none o

-- ---- lists

-- the things before a place do not differ
pub record Passed {A : Type 0} (f : A → A → Option (ℕ × ℕ)) (xs ys : List A) (i : ℕ) : Type 0 where
  pub same : pairwise f xs ys ≡ pairwise f (drop i xs) (drop i ys)

-- nothing is before the first
pub passed-none : {A : Type 0} (f : A → A → Option (ℕ × ℕ)) (xs ys : List A) → Passed f xs ys 0
passed-none f xs ys = record { same = refl }

pair-at : {A : Type 0} (f : A → A → Option (ℕ × ℕ)) (xs ys : List A) (i : ℕ) (x y : A) → slice_get xs i ≡ Some x → slice_get ys i ≡ Some y → pairwise f (drop i xs) (drop i ys) ≡ option_or (f x y) (pairwise f (drop (suc i) xs) (drop (suc i) ys))
unfolding pairwise
pair-at f [] ys i x y e h = absurd (cc)
pair-at f (z ∷ zs) [] i x y e h = absurd (cc)
pair-at {A} f (z ∷ zs) (w ∷ ws) zero x y e h =
    let left : z ≡ x = cc in
    let right : w ≡ y = cc in
    (λ i. option_or (f (left i) (right i)) (pairwise f zs ws))
pair-at f (z ∷ zs) (w ∷ ws) (suc i) x y e h = pair-at f zs ws i x y e h

-- .. nor the things at it
passed-more : {A : Type 0} (f : A → A → Option (ℕ × ℕ)) (xs ys : List A) (i : ℕ) (x y : A) → slice_get xs i ≡ Some x → slice_get ys i ≡ Some y → f x y ≡ None → Passed f xs ys i → Passed f xs ys (i + 1)
passed-more f xs ys i x y e h none p = rw add-one (record { same = p.same ∙ (pair-at f xs ys i x y e h ∙ ap (λ o. option_or o (pairwise f (drop (suc i) xs) (drop (suc i) ys))) none) })

-- .. but the things at it do
across-here : {A : Type 0} (f : A → A → Option (ℕ × ℕ)) (xs ys : List A) (i : ℕ) (x y : A) (p : ℕ × ℕ) → slice_get xs i ≡ Some x → slice_get ys i ≡ Some y → f x y ≡ Some p → Passed f xs ys i → across f xs ys ≡ Some p
unfolding across
across-here f xs ys i x y p e h some passed =
    let at : pairwise f xs ys ≡ Some p = passed.same ∙ (pair-at f xs ys i x y e h ∙ ap (λ o. option_or o (pairwise f (drop (suc i) xs) (drop (suc i) ys))) some) in
    ap (λ o. option_or o (apart (length xs) (length ys))) at

-- the same, as it is looked for
pub found-here : {A : Type 0} (f : A → A → Option (ℕ × ℕ)) (xs ys : List A) (i : ℕ) (x y : A) (r : Option (ℕ × ℕ)) → slice_get xs i ≡ Some x → slice_get ys i ≡ Some y → r ≡ f x y → is_some r ≡ true → Passed f xs ys i → r ≡ across f xs ys
found-here f xs ys i x y None e h is some passed = absurd (cc)
found-here f xs ys i x y (Some p) e h is some passed = sym (across-here f xs ys i x y p e h (sym is) passed)

-- .. and passed over
pub passed-here : {A : Type 0} (f : A → A → Option (ℕ × ℕ)) (xs ys : List A) (i : ℕ) (x y : A) (r : Option (ℕ × ℕ)) → slice_get xs i ≡ Some x → slice_get ys i ≡ Some y → r ≡ f x y → is_some r ≡ false → Passed f xs ys i → Passed f xs ys (i + 1)
passed-here f xs ys i x y None e h is none passed = passed-more f xs ys i x y e h (sym is) passed
passed-here f xs ys i x y (Some p) e h is none passed = absurd (cc)

pair-end : {A : Type 0} (f : A → A → Option (ℕ × ℕ)) (xs ys : List A) (i : ℕ) → min (length xs) (length ys) ≤ i → pairwise f (drop i xs) (drop i ys) ≡ None
unfolding pairwise
pair-end f [] ys zero l = refl
pair-end f [] ys (suc i) l = refl
pair-end f (x ∷ xs) [] zero l = refl
pair-end f (x ∷ xs) [] (suc i) l = pair-past f xs i
  where
    pair-past : {A : Type 0} (f : A → A → Option (ℕ × ℕ)) (xs : List A) (i : ℕ) → pairwise f (drop i xs) [] ≡ None
    pair-past f [] zero = refl
    pair-past f [] (suc i) = refl
    pair-past f (x ∷ xs) zero = refl
    pair-past f (x ∷ xs) (suc i) = pair-past f xs i
pair-end f (x ∷ xs) (y ∷ ys) zero l = absurd (omega arith)
pair-end f (x ∷ xs) (y ∷ ys) (suc i) l = pair-end f xs ys i (omega arith)

-- where one list ends, the lengths are left
pub found-end : {A : Type 0} (f : A → A → Option (ℕ × ℕ)) (xs ys : List A) (i : ℕ) (r : Option (ℕ × ℕ)) → min (length xs) (length ys) ≤ i → r ≡ apart (length xs) (length ys) → Passed f xs ys i → r ≡ across f xs ys
unfolding across
found-end f xs ys i r l is p = is ∙ sym (ap (λ o. option_or o (apart (length xs) (length ys))) (p.same ∙ pair-end f xs ys i l))

-- ---- lists that are seen by functions

at-mapped : {X Y : Type 0} (g : X → Y) (xs : List X) (i : ℕ) (x : X) → slice_get xs i ≡ Some x → slice_get (map g xs) i ≡ Some (g x)
at-mapped g xs i x e = slice_get-map g xs i ∙ ap (option_map g) e

pub found-mapped : {X Y : Type 0} (f : Y → Y → Option (ℕ × ℕ)) (g h : X → Y) (xs ys : List X) (i : ℕ) (x y : X) (r : Option (ℕ × ℕ)) → slice_get xs i ≡ Some x → slice_get ys i ≡ Some y → r ≡ f (g x) (h y) → is_some r ≡ true → Passed f (map g xs) (map h ys) i → r ≡ across f (map g xs) (map h ys)
found-mapped f g h xs ys i x y r e k is some passed = found-here f (map g xs) (map h ys) i (g x) (h y) r (at-mapped g xs i x e) (at-mapped h ys i y k) is some passed

pub passed-mapped : {X Y : Type 0} (f : Y → Y → Option (ℕ × ℕ)) (g h : X → Y) (xs ys : List X) (i : ℕ) (x y : X) (r : Option (ℕ × ℕ)) → slice_get xs i ≡ Some x → slice_get ys i ≡ Some y → r ≡ f (g x) (h y) → is_some r ≡ false → Passed f (map g xs) (map h ys) i → Passed f (map g xs) (map h ys) (i + 1)
passed-mapped f g h xs ys i x y r e k is none passed = passed-here f (map g xs) (map h ys) i (g x) (h y) r (at-mapped g xs i x e) (at-mapped h ys i y k) is none passed

pub end-mapped : {X Y : Type 0} (f : Y → Y → Option (ℕ × ℕ)) (g h : X → Y) (xs ys : List X) (i : ℕ) (r : Option (ℕ × ℕ)) → min (length xs) (length ys) ≤ i → r ≡ apart (length xs) (length ys) → Passed f (map g xs) (map h ys) i → r ≡ across f (map g xs) (map h ys)
end-mapped f g h xs ys i r l is passed =
    let left = length-map xs g in
    let right = length-map ys h in
    found-end f (map g xs) (map h ys) i r (omega (arith, l, left, right)) (is ∙ (λ j. apart (sym left j) (sym right j))) passed

-- ---- lists of numbers

pub numbers-here : (xs ys : List ℕ) (i : ℕ) (r : Option (ℕ × ℕ)) → i < length xs → i < length ys → r ≡ apart (get_or xs i 0) (get_or ys i 0) → is_some r ≡ true → Passed apart xs ys i → r ≡ between xs ys
unfolding between
numbers-here xs ys i r l k is some passed = found-here apart xs ys i (get_or xs i 0) (get_or ys i 0) r (slice_get-get_or xs i 0 l) (slice_get-get_or ys i 0 k) is some passed

pub numbers-passed : (xs ys : List ℕ) (i : ℕ) (r : Option (ℕ × ℕ)) → i < length xs → i < length ys → r ≡ apart (get_or xs i 0) (get_or ys i 0) → is_some r ≡ false → Passed apart xs ys i → Passed apart xs ys (i + 1)
numbers-passed xs ys i r l k is none passed = passed-here apart xs ys i (get_or xs i 0) (get_or ys i 0) r (slice_get-get_or xs i 0 l) (slice_get-get_or ys i 0 k) is none passed

pub numbers-end : (xs ys : List ℕ) (i : ℕ) (r : Option (ℕ × ℕ)) → min (length xs) (length ys) ≤ i → r ≡ apart (length xs) (length ys) → Passed apart xs ys i → r ≡ between xs ys
unfolding between
numbers-end xs ys i r l is p = found-end apart xs ys i r l is p

-- ---- one part after another

-- a part that differs is the first that does
pub part-found : (r o : Option (ℕ × ℕ)) (os : List (Option (ℕ × ℕ))) → r ≡ o → is_some r ≡ true → r ≡ first_of (o ∷ os)
part-found None o os e some = absurd (cc)
part-found (Some p) o os e some = sym (first-found o os p (sym e))

-- a part that does not is passed over
pub part-passed : (r o : Option (ℕ × ℕ)) (os : List (Option (ℕ × ℕ))) → r ≡ o → is_some r ≡ false → first_of (o ∷ os) ≡ first_of os
part-passed None o os e none = first-passed o os (sym e)
part-passed (Some p) o os e none = absurd (cc)

pub ruleset looked = (first-found, first-passed, first-last)
