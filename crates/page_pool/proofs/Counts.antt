-- How often a page stands in a list, and how many pages nobody holds.
use Rattle.std.proofs.Common.{◌≡◌, ℕ, zero, suc, ◌+◌, ◌<◌, ◌≤◌, ◌≢◌, List, [], ◌∷◌, ◌++◌, length, get_or, set, sum, arith, refl}
use Rattle.std.specs.Prelude.{◌==◌, if◌then◌else◌, replicate, count_by}
use Rattle.std.proofs.lemmas.Bool.Decides.{nat_tests}
use Rattle.std.proofs.lemmas.List.{get_or-set_same, get_or-set_other, get_or_default, get_or_past}
use Rattle.std.proofs.lemmas.List.Sums.{sum_by_push, sum_by-cons, sum_by-set, get_or-le-sum_by}
use Rattle.page_pool.specs.Store.{times, idle_pages, idle}

-- 1 where two numbers are equal
abbrev pub one_if : ℕ → ℕ → ℕ
one_if p q = if p == q then 1 else 0

pub one_if-same : (p : ℕ) → one_if p p ≡ 1
one_if-same p = grind (arith, nat_tests)

pub one_if-other : (p q : ℕ) → p ≢ q → one_if p q ≡ 0
one_if-other p q n = grind (arith, nat_tests)

pub times-none : (p : ℕ) → times p [] ≡ 0
unfolding times
times-none p = refl

pub times-push : (p : ℕ) (ps : List ℕ) (q : ℕ) → times p (ps ++ q ∷ []) ≡ times p ps + one_if q p
unfolding times
times-push p ps q = sum_by_push (λ x. one_if x p) ps q

-- what stands in a list stands there once at least
pub times-there : (ps : List ℕ) (i : ℕ) → i < length ps → 0 < times (get_or ps i 0) ps
unfolding times
times-there ps i h =
    let one : one_if (get_or ps i 0) (get_or ps i 0) ≡ 1 = one_if-same (get_or ps i 0) in
    omega (arith, get_or-le-sum_by (λ x. one_if x (get_or ps i 0)) ps i 0 h)

pub idle-set_same : (hs : List ℕ) (p v : ℕ) → p < length hs → idle p (set hs p v) ≡ one_if v 0
unfolding idle
idle-set_same hs p v h = rw (get_or-set_same hs p v 1 h) refl

pub idle-set_other : (hs : List ℕ) (p q v : ℕ) → q ≢ p → idle q (set hs p v) ≡ idle q hs
unfolding idle
idle-set_other hs p q v n = rw (get_or-set_other hs p q v 1 n) refl

pub idle-is : (hs : List ℕ) (p : ℕ) → p < length hs → idle p hs ≡ one_if (get_or hs p 0) 0
unfolding idle
idle-is hs p h = rw (get_or_default hs p 1 0 h) refl

pub idle-past : (hs : List ℕ) (p : ℕ) → length hs ≤ p → idle p hs ≡ 0
unfolding idle
idle-past hs p h = rw (get_or_past hs p 1 h) refl

pub idle_pages-set : (hs : List ℕ) (p v : ℕ) → p < length hs → idle_pages (set hs p v) + one_if (get_or hs p 0) 0 ≡ idle_pages hs + one_if v 0
unfolding idle_pages
idle_pages-set hs p v h = sum_by-set (λ x. one_if x 0) hs p v 0 h

pub sum-set : (hs : List ℕ) (p v : ℕ) → p < length hs → sum (set hs p v) + get_or hs p 0 ≡ sum hs + v
sum-set hs p v h = sum_by-set (λ x. x) hs p v 0 h

pub get_or-le-sum : (hs : List ℕ) (p : ℕ) → p < length hs → get_or hs p 0 ≤ sum hs
get_or-le-sum hs p h = get_or-le-sum_by (λ x. x) hs p 0 h

-- fewer holders than pages: nobody holds some page
pub idle_pages-enough : (hs : List ℕ) → length hs ≤ sum hs + idle_pages hs
unfolding idle_pages
idle_pages-enough [] = omega arith
idle_pages-enough (x ∷ xs) =
    let rest : length xs ≤ sum xs + count_by (λ h. h == 0) xs = idle_pages-enough xs in
    let s : sum (x ∷ xs) ≡ x + sum xs = sum_by-cons (λ y. y) x xs in
    let c : count_by (λ h. h == 0) (x ∷ xs) ≡ one_if x 0 + count_by (λ h. h == 0) xs = sum_by-cons (λ y. one_if y 0) x xs in
    let one : 1 ≤ x + one_if x 0 = grind (arith, nat_tests) in
    omega arith

-- holders that are none
pub sum-none : (n : ℕ) → sum (replicate n 0) ≡ 0
sum-none zero = refl
sum-none (suc n) = let rest : sum (replicate n 0) ≡ 0 = sum-none n in let c : sum (0 ∷ replicate n 0) ≡ 0 + sum (replicate n 0) = sum_by-cons (λ x. x) 0 (replicate n 0) in omega arith

pub idle_pages-all : (n : ℕ) → idle_pages (replicate n 0) ≡ n
unfolding idle_pages
idle_pages-all zero = refl
idle_pages-all (suc n) =
    let c : count_by (λ h. h == 0) (replicate (suc n) 0) ≡ 1 + count_by (λ h. h == 0) (replicate n 0) = sum_by-cons (λ y. one_if y 0) 0 (replicate n 0) in
    let rest : count_by (λ h. h == 0) (replicate n 0) ≡ n = idle_pages-all n in
    omega arith
