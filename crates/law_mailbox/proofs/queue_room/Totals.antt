-- Sums over the contexts, and over the connections.
use Rattle.std.proofs.Common.{arith, ◌≡◌, ◌≢◌, ℕ, zero, suc, ◌+◌, ◌*◌, ◌≤◌, List, [], ◌∷◌, length, refl, sym, ap, ◌⊎◌, inl, inr, eq-eqb, ne_eqb}
use Rattle.std.specs.Prelude.{All, count_by, sum_by, ◌==◌}
use Rattle.std.proofs.lemmas.List.Elements.{All-head, All-tail}
use Rattle.std.proofs.lemmas.List.Sums.{sum_by-append, sum_by-cons}
use Rattle.law_mailbox.specs.Answered.{for_each}
use Rattle.law_mailbox.proofs.work.Changing.{one_or_not}
use Rattle.law_mailbox.proofs.queue_room.Counts.{count_cons, one_if}

-- ---- over the contexts

-- of 0 to n
abbrev pub total : (ℕ → ℕ) → ℕ → ℕ
total f zero = f 0
total f (suc n) = total f n + f (suc n)

pub total_same : (f g : ℕ → ℕ) (n : ℕ) → ((k : ℕ) → k ≤ n → g k ≡ f k) → total g n ≡ total f n
total_same f g zero same = same 0 (omega arith)
total_same f g (suc n) same =
    let front = total_same f g n (λ k below. same k (omega (arith, below))) in
    let last = same (suc n) (omega arith) in
    omega (arith, front, last)

-- where one of them is another
pub total_changes : (f g : ℕ → ℕ) (c n : ℕ) → c ≤ n → ((k : ℕ) → k ≤ n → k ≢ c → g k ≡ f k) → total g n + f c ≡ total f n + g c
total_changes f g zero zero within same = omega arith
total_changes f g (suc c) zero within same = absurd (omega (arith, within))
total_changes f g c (suc n) within same = by (one_or_not c (suc n)) (λ below. total_changes f g c n below (λ k few. same k (omega (arith, few))))
  where
    by : (c ≡ suc n) ⊎ (c ≢ suc n) → (c ≤ n → total g n + f c ≡ total f n + g c) → total g (suc n) + f c ≡ total f (suc n) + g c
    by (inl e) front =
        let others = total_same f g n (λ k below. same k (omega (arith, below)) (λ is. omega (arith, is, e, below))) in
        let old : f c ≡ f (suc n) = ap f e in
        let new : g c ≡ g (suc n) = ap g e in
        omega (arith, others, old, new)
    by (inr apart) front =
        let others = front (omega (arith, within, apart)) in
        let last = same (suc n) (omega arith) (λ is. apart (sym is)) in
        omega (arith, others, last)

pub total_within : (f : ℕ → ℕ) (b n : ℕ) → ((k : ℕ) → k ≤ n → f k ≤ b) → total f n ≤ b * (n + 1)
total_within f b zero each = let first = each 0 (omega arith) in grind (arith, first)
total_within f b (suc n) each =
    let front = total_within f b n (λ k below. each k (omega (arith, below))) in
    let last = each (suc n) (omega arith) in
    grind (arith, front, last)

-- ---- over the connections

-- of 1 to n
abbrev pub over : (ℕ → ℕ) → ℕ → ℕ
over f zero = 0
over f (suc n) = over f n + f (suc n)

total_over : (f : ℕ → ℕ) (n : ℕ) → total f n ≡ f 0 + over f n
total_over f zero = omega arith
total_over f (suc n) = let front = total_over f n in omega (arith, front)

-- where one of them is another
over_changes : (f g : ℕ → ℕ) (c n : ℕ) → 1 ≤ c → c ≤ n → ((k : ℕ) → k ≢ c → g k ≡ f k) → over g n + f c ≡ over f n + g c
over_changes f g c n low high same =
    let all = total_changes f g c n high (λ k within apart. same k apart) in
    let none = same 0 (λ e. omega (arith, low, e)) in
    omega (arith, all, none, total_over f n, total_over g n)

over_nothing : (n : ℕ) → over (λ k. 0) n ≡ 0
over_nothing zero = refl
over_nothing (suc n) = let front = over_nothing n in omega (arith, front)

pub over_both : (f g : ℕ → ℕ) (n : ℕ) → over (λ k. f k + g k) n ≡ over f n + over g n
over_both f g zero = refl
over_both f g (suc n) = let front = over_both f g n in omega (arith, front)

pub over_within : (f : ℕ → ℕ) (b n : ℕ) → ((k : ℕ) → 1 ≤ k → k ≤ n → f k ≤ b) → over f n ≤ b * n
over_within f b zero each = omega arith
over_within f b (suc n) each =
    let front = over_within f b n (λ k low below. each k low (omega (arith, below))) in
    let last = each (suc n) (omega arith) (omega arith) in
    grind (arith, front, last)

-- as many things as there are of each connection, where each is of one
pub counted_over : {X : Type 0} (key : X → ℕ) (n : ℕ) (xs : List X) → All (λ x. (1 ≤ key x) × (key x ≤ n)) xs → length xs ≡ over (λ k. count_by (λ x. key x == k) xs) n
counted_over key n [] all = sym (over_nothing n)
counted_over key n (x ∷ xs) all =
    let rest = counted_over key n xs (All-tail (λ y. (1 ≤ key y) × (key y ≤ n)) x xs all) in
    let known : (1 ≤ key x) × (key x ≤ n) = All-head (λ y. (1 ≤ key y) × (key y ≤ n)) x xs all in
    let one : one_if (key x == key x) ≡ 1 = ap one_if (eq-eqb (key x) (key x) refl) in
    let changes = over_changes (λ k. count_by (λ y. key y == k) xs) (λ k. count_by (λ y. key y == k) (x ∷ xs)) (key x) n known.0 known.1 other in
    omega (arith, rest, one, changes, count_cons (λ y. key y == key x) x xs)
  where
    other : (k : ℕ) → k ≢ key x → count_by (λ y. key y == k) (x ∷ xs) ≡ count_by (λ y. key y == k) xs
    other k apart =
        let none : one_if (key x == k) ≡ 0 = ap one_if (ne_eqb (key x) k (λ e. apart (sym e))) in
        omega (arith, none, count_cons (λ y. key y == k) x xs)

-- a sum over a list with one thing for each connection
pub summed_over : {X : Type 0} (g : X → ℕ) (f : ℕ → X) (n : ℕ) → sum_by g (for_each f n) ≡ over (λ k. g (f k)) n
summed_over g f zero = refl
summed_over g f (suc n) =
    let front = summed_over g f n in
    omega (arith, front, sum_by-append g (for_each f n) (f (suc n) ∷ []), sum_by-cons g (f (suc n)) [])
