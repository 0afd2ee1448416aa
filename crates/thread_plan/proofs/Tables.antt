-- Tables with a place for each addition of each worker.
use Rattle.std.proofs.Common.{arith, ◌≡◌, ℕ, zero, suc, ◌+◌, ◌<◌, Bool, cond, List, [], ◌∷◌, replicate, slice_get, Some, refl, ap, ◌∙◌}
use Rattle.std.specs.Option.{option_and_then}
use Rattle.std.specs.Prelude.{count_by}
use Rattle.std.proofs.lemmas.List.Sums.{sum_by-append}
use Rattle.thread_plan.specs.Tables.{AreRaised, number_at}

-- ---- counts

-- of one thing
count_one : {X : Type 0} (p : X → Bool) (x : X) → count_by p (x ∷ []) ≡ cond (p x) 1 0
count_one p x = let e : 0 + cond (p x) 1 0 ≡ cond (p x) 1 0 = omega arith in e

-- of one thing more in front
pub count_cons : {X : Type 0} (p : X → Bool) (x : X) (xs : List X) → count_by p (x ∷ xs) ≡ cond (p x) 1 0 + count_by p xs
count_cons p x xs = sum_by-append (λ y. cond (p y) 1 0) (x ∷ []) xs ∙ ap (λ n. n + count_by p xs) (count_one p x)

-- ---- places

-- the table in which a number stands
pub table_at : (ts : List (List ℕ)) (w k n : ℕ) → number_at ts w k ≡ Some n → (t : List ℕ) × ((slice_get ts w ≡ Some t) × (slice_get t k ≡ Some n))
table_at [] w k n h = absurd cc
table_at (t ∷ ts) zero k n h = (t, (refl, h))
table_at (t ∷ ts) (suc w) k n h = table_at ts w k n h

replicate_at : {X : Type 0} (n k : ℕ) (x : X) → k < n → slice_get (replicate n x) k ≡ Some x
replicate_at zero k x h = absurd (omega (arith, h))
replicate_at (suc n) zero x h = refl
replicate_at (suc n) (suc k) x h = replicate_at n k x (omega (arith, h))

-- in new tables every number is 0
pub zeros_at : (workers adds w k : ℕ) → w < workers → k < adds → number_at (replicate workers (replicate adds 0)) w k ≡ Some 0
zeros_at workers adds w k low within = ap (option_and_then (λ (t : List ℕ). slice_get t k)) (replicate_at workers w (replicate adds 0) low) ∙ replicate_at adds k 0 within

-- ---- tables that rise

-- by nothing
pub raised_none : (by : ℕ → ℕ → ℕ) (ts : List (List ℕ)) → ((i j : ℕ) → by i j ≡ 0) → AreRaised by ts ts
raised_none by ts none w k n at =
    let z = none (w + 1) (k + 1) in
    let e : n ≡ n + by (w + 1) (k + 1) = omega (arith, z) in
    at ∙ ap Some e

-- twice
pub raised_both : (f g h : ℕ → ℕ → ℕ) (a b c : List (List ℕ)) → AreRaised f a b → AreRaised g b c → ((i j : ℕ) → h i j ≡ f i j + g i j) → AreRaised h a c
raised_both f g h a b c one two sums w k n at =
    let s = sums (w + 1) (k + 1) in
    let e : (n + f (w + 1) (k + 1)) + g (w + 1) (k + 1) ≡ n + h (w + 1) (k + 1) = omega (arith, s) in
    two w k (n + f (w + 1) (k + 1)) (one w k n at) ∙ ap Some e
