-- One page more, or one less, in a loop over pages.
use Rattle.std.proofs.Common.{◌≡◌, ℕ, ◌+◌, ◌-◌, ◌<◌, ◌≤◌, ◌≢◌, List, [], ◌∷◌, ◌++◌, length, get_or, set, sum, arith, refl, ap, sym, ◌∙◌, inl, inr}
use Rattle.std.specs.Prelude.{◌⊎◌}
use Rattle.std.proofs.lemmas.Bool.{cases_lt, cases_eq}
use Rattle.std.proofs.lemmas.List.{get_or-set_same, get_or-set_other, get_or_past, length-set}
use Rattle.page_pool.specs.Store.{times}
use Rattle.page_pool.proofs.Counts.{one_if, one_if-same, one_if-other, times-push, sum-set}

-- what is counted is there
pub inside : (hs : List ℕ) (q : ℕ) → 0 < get_or hs q 0 → q < length hs
inside hs q h = by_place (cases_lt q (length hs))
  where
    by_place : (q < length hs) ⊎ (length hs ≤ q) → q < length hs
    by_place (inl l) = l
    by_place (inr l) = absurd (omega (arith, get_or_past hs q 0 l))

-- a page of one more holder
pub one_more-at : (hs : List ℕ) (q v p : ℕ) → q < length hs → v ≡ get_or hs q 0 + 1 → get_or (set hs q v) p 0 ≡ get_or hs p 0 + one_if q p
one_more-at hs q v p l e = by_place (cases_eq p q)
  where
    by_place : (p ≡ q) ⊎ (p ≢ q) → get_or (set hs q v) p 0 ≡ get_or hs p 0 + one_if q p
    by_place (inl i) = let one : one_if q q ≡ 1 = one_if-same q in rw i (get_or-set_same hs q v 0 l ∙ (e ∙ ap (λ n. get_or hs q 0 + n) (sym one)))
    by_place (inr n) = let none : one_if q p ≡ 0 = one_if-other q p (λ i. n (sym i)) in get_or-set_other hs q p v 0 n ∙ omega arith

-- a page of one holder less
pub one_less-at : (hs : List ℕ) (q p : ℕ) → 0 < get_or hs q 0 → get_or (set hs q (get_or hs q 0 - 1)) p 0 + one_if q p ≡ get_or hs p 0
one_less-at hs q p held = by_place (cases_eq p q)
  where
    by_place : (p ≡ q) ⊎ (p ≢ q) → get_or (set hs q (get_or hs q 0 - 1)) p 0 + one_if q p ≡ get_or hs p 0
    by_place (inl i) =
        let one : one_if q q ≡ 1 = one_if-same q in
        let at : get_or (set hs q (get_or hs q 0 - 1)) q 0 ≡ get_or hs q 0 - 1 = get_or-set_same hs q (get_or hs q 0 - 1) 0 (inside hs q held) in
        rw i (omega arith)
    by_place (inr n) =
        let none : one_if q p ≡ 0 = one_if-other q p (λ i. n (sym i)) in
        let at : get_or (set hs q (get_or hs q 0 - 1)) p 0 ≡ get_or hs p 0 = get_or-set_other hs q p (get_or hs q 0 - 1) 0 n in
        omega arith

-- one page more that is held
pub hold-more : (hs0 hs hs' ns ns' : List ℕ) (q p : ℕ) → q < length hs → hs' ≡ set hs q (get_or hs q 0 + 1) → ns' ≡ ns ++ q ∷ [] → get_or hs p 0 ≡ get_or hs0 p 0 + times p ns → get_or hs' p 0 ≡ get_or hs0 p 0 + times p ns'
hold-more hs0 hs hs' ns ns' q p l is more before = omega (arith, one_more-at hs q (get_or hs q 0 + 1) p l refl, ap (λ xs. get_or xs p 0) is, ap (times p) more, times-push p ns q)

-- one page more that is given back
pub give-more : (hs0 hs hs' ns ns' : List ℕ) (q p : ℕ) → 0 < get_or hs q 0 → hs' ≡ set hs q (get_or hs q 0 - 1) → ns' ≡ ns ++ q ∷ [] → get_or hs p 0 + times p ns ≡ get_or hs0 p 0 → get_or hs' p 0 + times p ns' ≡ get_or hs0 p 0
give-more hs0 hs hs' ns ns' q p held is more before = omega (arith, one_less-at hs q p held, ap (λ xs. get_or xs p 0) is, ap (times p) more, times-push p ns q)

-- a page that is given back next is held
pub held-next : (hs0 hs ns ns' all : List ℕ) (q : ℕ) → ns' ≡ ns ++ q ∷ [] → times q ns' ≤ times q all → get_or hs q 0 + times q ns ≡ get_or hs0 q 0 → times q all ≤ get_or hs0 q 0 → 0 < get_or hs q 0
held-next hs0 hs ns ns' all q more part counted held = omega (arith, one_if-same q, ap (times q) more, times-push q ns q)

pub sum-more : (hs hs' : List ℕ) (q v : ℕ) → q < length hs → v ≡ get_or hs q 0 + 1 → hs' ≡ set hs q v → sum hs' ≡ sum hs + 1
sum-more hs hs' q v l e is = omega (arith, ap sum is, sum-set hs q v l)

pub sum-less : (hs hs' : List ℕ) (q : ℕ) → 0 < get_or hs q 0 → hs' ≡ set hs q (get_or hs q 0 - 1) → sum hs' + 1 ≡ sum hs
sum-less hs hs' q held is = omega (arith, ap sum is, sum-set hs q (get_or hs q 0 - 1) (inside hs q held))

-- a page that is held was held
pub held-before : (hs hs' : List ℕ) (q p : ℕ) → 0 < get_or hs q 0 → hs' ≡ set hs q (get_or hs q 0 - 1) → 0 < get_or hs' p 0 → 0 < get_or hs p 0
held-before hs hs' q p held is h = omega (arith, ap (λ xs. get_or xs p 0) is, one_less-at hs q p held)

pub length-changed : (hs hs' : List ℕ) (q v : ℕ) → hs' ≡ set hs q v → length hs' ≡ length hs
length-changed hs hs' q v is = ap length is ∙ length-set hs q v
