-- Lists of entries, their places, and totals over passes.
use Rattle.std.proofs.Common.{arith, ◌≡◌, ◌≢◌, ◌⊎◌, inl, inr, ℕ, zero, suc, ◌+◌, ◌<◌, ◌≤◌, ◌==◌, if◌then◌else◌, List, [], ◌∷◌, ◌++◌, length, set, slice_get, Some, refl, ap, sym, subst, ◌∙◌, ⊎_elim}
use Rattle.std.proofs.lemmas.Bool.Decides.{nat_tests, eqb_tells}
use mathlib.Core.Option.{some, some-ne-none}
use lib.ListN.{get_elem?}
use Rattle.crossbeam_queue.proofs.Lists.{at_set}
use Rattle.rdma_types.specs.declared.requests.Completion.{Completion}
use Rattle.completion_fanout.specs.declared.entry.FanEntry.{FanEntry}
use Rattle.completion_fanout.specs.declared.rule.Share.{Share}
use Rattle.completion_fanout.specs.Fanned.{AreOf, IsRising, places, times}
use Rattle.completion_fanout.specs.Rule.{below, total}

some_is : (a b : Share) → some a ≡ some b → a ≡ b
some_is a b h = cc

pub total_set : (f : Share → ℕ) (views : List Share) (port : ℕ) (v w : Share) → get_elem? views port ≡ some v → total f (set views port w) + f v ≡ total f views + f w
total_set f [] port v w at = absurd (some-ne-none v (sym at))
total_set f (x ∷ xs) zero v w at = let same : f x ≡ f v = ap f (some_is x v at) in omega arith
total_set f (x ∷ xs) (suc port) v w at = let ih = total_set f xs port v w at in omega arith

pub total_snoc : (f : Share → ℕ) (views : List Share) (w : Share) → total f (views ++ w ∷ []) ≡ total f views + f w
total_snoc f [] w = omega arith
total_snoc f (x ∷ xs) w = let ih = total_snoc f xs w in omega arith

-- a pass counts no more than all
pub part_le : (f : Share → ℕ) (views : List Share) (port : ℕ) (v : Share) → get_elem? views port ≡ some v → f v ≤ total f views
part_le f [] port v at = absurd (some-ne-none v (sym at))
part_le f (x ∷ xs) zero v at = let same : f x ≡ f v = ap f (some_is x v at) in omega arith
part_le f (x ∷ xs) (suc port) v at = let ih = part_le f xs port v at in omega arith

none_total : (f : Share → ℕ) (views : List Share) → ((j : ℕ) (u : Share) → get_elem? views j ≡ some u → u.parts ≡ 0 → f u ≡ 0) → total (λ u. u.parts) views ≡ 0 → total f views ≡ 0
none_total f [] idle none = refl
none_total f (x ∷ xs) idle none = let here = idle 0 x refl (omega (arith, none)) in let rest = none_total f xs (λ j u a p. idle (suc j) u a p) (omega (arith, none)) in omega arith

-- where one pass has all parts, the others count nothing
pub only : (f : Share → ℕ) (views : List Share) (port : ℕ) (v : Share) → ((j : ℕ) (u : Share) → get_elem? views j ≡ some u → u.parts ≡ 0 → f u ≡ 0) → total (λ u. u.parts) views ≡ v.parts → get_elem? views port ≡ some v → total f views ≡ f v
only f [] port v idle all at = absurd (some-ne-none v (sym at))
only f (x ∷ xs) zero v idle all at =
    let same : x ≡ v = some_is x v at in
    let same_parts : x.parts ≡ v.parts = ap (λ u. u.parts) same in
    let same_f : f x ≡ f v = ap f same in
    let rest = none_total f xs (λ j u a p. idle (suc j) u a p) (omega (arith, all, same_parts)) in
    omega arith
only f (x ∷ xs) (suc port) v idle all at =
    let le = part_le (λ u. u.parts) xs port v at in
    let here = idle 0 x refl (omega (arith, le, all)) in
    let rest = only f xs port v (λ j u a p. idle (suc j) u a p) (omega (arith, le, all)) at in
    omega arith

-- the change of one pass
pub fits_set : (F : ℕ → Share → Type 0) (views : List Share) (port : ℕ) (w : Share) → F port w → ((j : ℕ) (u : Share) → j ≢ port → get_elem? views j ≡ some u → F j u) → (j : ℕ) (u : Share) → get_elem? (set views port w) j ≡ some u → F j u
fits_set F views port w mine others j u e = ⊎_elim (λ (x : (j ≡ port) × (w ≡ u)). subst (λ (y : ℕ × Share). F y.0 y.1) (λ i. (sym x.0 i, x.1 i)) mine)
    (λ (x : (j ≢ port) × (get_elem? views j ≡ some u)). others j u x.0 x.1) (at_set views port j w u e)

-- ---- places

pub places_append : (xs ys : List FanEntry) → places (xs ++ ys) ≡ places xs ++ places ys
places_append [] ys = refl
places_append (x ∷ xs) ys = ap (λ l. x.place ∷ l) (places_append xs ys)

pub times_append : (k : ℕ) (xs ys : List ℕ) → times k (xs ++ ys) ≡ times k xs + times k ys
times_append k [] ys = omega arith
times_append k (y ∷ xs) ys = let ih = times_append k xs ys in omega arith

-- .. of entries
pub times_places : (k : ℕ) (xs ys : List FanEntry) → times k (places (xs ++ ys)) ≡ times k (places xs) + times k (places ys)
times_places k xs ys = ap (times k) (places_append xs ys) ∙ times_append k (places xs) (places ys)

pub below_more : (k m : ℕ) → below k (m + 1) ≡ below k m + (if m == k then 1 else 0)
below_more k m = grind (arith, nat_tests, eqb_tells m k)

-- ---- lists that grow

pub get_append : {A : Type 0} (xs ys : List A) (k : ℕ) (x : A) → slice_get xs k ≡ Some x → slice_get (xs ++ ys) k ≡ Some x
get_append [] ys k x h = cc
get_append (z ∷ xs) ys zero x h = h
get_append (z ∷ xs) ys (suc k) x h = get_append xs ys k x h

pub get_push : {A : Type 0} (xs : List A) (y : A) (k : ℕ) (x : A) → slice_get (xs ++ y ∷ []) k ≡ Some x → ((k < length xs) × (slice_get xs k ≡ Some x)) ⊎ ((k ≡ length xs) × (x ≡ y))
get_push [] y zero x h = inr (refl, cc)
get_push [] y (suc k) x h = cc
get_push (z ∷ xs) y zero x h = inl (omega arith, h)
get_push (z ∷ xs) y (suc k) x h = elim (get_push xs y k x h) [ inl a ↦ inl (omega (arith, a.0), a.1) | inr b ↦ inr (ap suc b.0, b.1) ]

-- an element of two lists stands in one of them
pub get_either : {A : Type 0} (xs ys : List A) (k : ℕ) (x : A) → slice_get (xs ++ ys) k ≡ Some x → (slice_get xs k ≡ Some x) ⊎ ((j : ℕ) × (slice_get ys j ≡ Some x))
get_either [] ys k x h = inr (k, h)
get_either (z ∷ xs) ys zero x h = inl h
get_either (z ∷ xs) ys (suc k) x h = get_either xs ys k x h

pub get_last : {A : Type 0} (xs : List A) (y : A) → slice_get (xs ++ y ∷ []) (length xs) ≡ Some y
get_last [] y = refl
get_last (x ∷ xs) y = get_last xs y

pub get_low : {A : Type 0} (xs : List A) (k : ℕ) (x : A) → slice_get xs k ≡ Some x → k < length xs
get_low [] k x h = cc
get_low (z ∷ xs) zero x h = omega arith
get_low (z ∷ xs) (suc k) x h = let ih = get_low xs k x h in omega arith

-- the place of an entry
pub get_place : (xs : List FanEntry) (k p : ℕ) → slice_get (places xs) k ≡ Some p → (e : FanEntry) × (slice_get xs k ≡ Some e) × (e.place ≡ p)
get_place [] k p h = cc
get_place (x ∷ xs) zero p h = (x, refl, cc)
get_place (x ∷ xs) (suc k) p h = get_place xs k p h

-- ---- entries and their completions

pub of_none : (got : List Completion) → AreOf got []
of_none got i e h = cc

pub of_more : (got : List Completion) (c : Completion) (xs : List FanEntry) → AreOf got xs → AreOf (got ++ c ∷ []) xs
of_more got c xs of i e h = get_append got (c ∷ []) e.place e.completion (of i e h)

pub of_both : (got : List Completion) (xs ys : List FanEntry) → AreOf got xs → AreOf got ys → AreOf got (xs ++ ys)
of_both got xs ys a b i e h = elim (get_either xs ys i e h) [ inl p ↦ a i e p | inr q ↦ b q.0 e q.1 ]

-- the next completion is taken
pub of_push : (got : List Completion) (c : Completion) (xs : List FanEntry) → AreOf got xs → AreOf (got ++ c ∷ []) (xs ++ record { place = length got; completion = c } ∷ [])
of_push got c xs of i e h = elim (get_push xs (record { place = length got; completion = c }) i e h) [
  | inl a ↦ of_more got c xs of i e a.1
  | inr b ↦ subst (λ (y : FanEntry). slice_get (got ++ c ∷ []) y.place ≡ Some y.completion) (sym b.1) (get_last got c)
]

-- the place of a taken entry is less than the number of taken completions
low_places : (got : List Completion) (xs : List FanEntry) → AreOf got xs → (i p : ℕ) → slice_get (places xs) i ≡ Some p → p < length got
low_places got xs of i p at = let e = get_place xs i p at in let l = get_low got e.0.place e.0.completion (of i e.0 e.1) in omega (arith, e.2, l)

rising_last : (n : ℕ) (xs : List ℕ) → IsRising xs → ((i x : ℕ) → slice_get xs i ≡ Some x → x < n) → IsRising (xs ++ n ∷ [])
rising_last n xs rising low i j x y at_i at_j h = elim (get_push xs n j y at_j) [
  | inl b ↦ elim (get_push xs n i x at_i) [ inl a ↦ rising i j x y a.1 b.1 h | inr a ↦ absurd (omega (arith, a.0, b.0, h)) ]
  | inr b ↦ elim (get_push xs n i x at_i) [ inl a ↦ (let p = low i x a.1 in omega (arith, p, b.1)) | inr a ↦ absurd (omega (arith, a.0, b.0, h)) ]
]

-- the next one's is greater than those of all taken before
pub rising_push : (got : List Completion) (c : Completion) (xs : List FanEntry) → IsRising (places xs) → AreOf got xs → IsRising (places (xs ++ record { place = length got; completion = c } ∷ []))
rising_push got c xs rising of = subst IsRising (sym (places_append xs (record { place = length got; completion = c } ∷ []))) (rising_last (length got) (places xs) rising (low_places got xs of))
