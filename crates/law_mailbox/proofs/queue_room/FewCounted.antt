-- Completions are counted by the connections that they are of.
use Rattle.std.proofs.Common.{arith, ◌≡◌, ◌≢◌, ℕ, zero, suc, ◌+◌, ◌*◌, ◌≤◌, List, [], ◌∷◌, length, true, false, Bool, refl, ap, ◌⊎◌, inl, inr, eq-eqb, ne_eqb}
use Rattle.std.specs.Prelude.{All, count_by, not, ◌==◌, ◌&&◌}
use Rattle.std.proofs.lemmas.List.Elements.{All-head, All-tail}
use Rattle.rdma_types.specs.declared.requests.Completion.{Completion}
use Rattle.mailbox_rules.specs.Opening.{connection_of}
use Rattle.law_mailbox.specs.Few.{is_receive, is_receive_of, is_request_of}
use Rattle.law_mailbox.proofs.work.Changing.{one_or_not}
use Rattle.law_mailbox.proofs.queue_room.Counts.{count_cons, one_if}
use Rattle.law_mailbox.proofs.queue_room.Totals.{total, total_same}

-- a completion of connection i
abbrev pub is_of : ℕ → Completion → Bool
is_of i x = connection_of x.qp == i

-- each is of one of the connections
abbrev pub AreKnown : ℕ → List Completion → Type 0
AreKnown peers xs = All (λ x. (1 ≤ connection_of x.qp) × (connection_of x.qp ≤ peers)) xs

-- ---- receives, and requests

split_test : (b r : Bool) → one_if (b && r) + one_if (b && not r) ≡ one_if b
split_test true true = refl
split_test true false = refl
split_test false r = refl

-- each completion is of a receive or of a request
pub both_kinds : (i : ℕ) (xs : List Completion) → count_by (is_receive_of i) xs + count_by (is_request_of i) xs ≡ count_by (is_of i) xs
both_kinds i [] = refl
both_kinds i (x ∷ xs) =
    let one = split_test (connection_of x.qp == i) (is_receive x.kind) in
    let rest = both_kinds i xs in
    omega (arith, one, rest, count_cons (is_receive_of i) x xs, count_cons (is_request_of i) x xs, count_cons (is_of i) x xs)

-- ---- over all connections

total_none : (n : ℕ) → total (λ i. 0) n ≡ 0
total_none zero = refl
total_none (suc n) = let front = total_none n in omega (arith, front)

total_both : (f g : ℕ → ℕ) (n : ℕ) → total (λ i. f i + g i) n ≡ total f n + total g n
total_both f g zero = refl
total_both f g (suc n) = let front = total_both f g n in omega (arith, front)

-- a number is one of those up to n
one_counted : (c n : ℕ) → c ≤ n → total (λ i. one_if (c == i)) n ≡ 1
one_counted c zero within = ap one_if (eq-eqb c 0 (omega (arith, within)))
one_counted c (suc n) within = by (one_or_not c (suc n)) (λ below. one_counted c n below)
  where
    by : (c ≡ suc n) ⊎ (c ≢ suc n) → (c ≤ n → total (λ i. one_if (c == i)) n ≡ 1) → total (λ i. one_if (c == i)) (suc n) ≡ 1
    by (inl e) front =
        let last : one_if (c == suc n) ≡ 1 = ap one_if (eq-eqb c (suc n) e) in
        let others : total (λ i. one_if (c == i)) n ≡ total (λ i. 0) n = total_same (λ i. 0) (λ i. one_if (c == i)) n (λ k below. ap one_if (ne_eqb c k (λ same. omega (arith, same, e, below)))) in
        omega (arith, last, others, total_none n)
    by (inr apart) front =
        let last : one_if (c == suc n) ≡ 0 = ap one_if (ne_eqb c (suc n) apart) in
        let others = front (omega (arith, within, apart)) in
        omega (arith, last, others)

-- so there are no more than those of each connection together
pub entries_total : (peers : ℕ) (xs : List Completion) → AreKnown peers xs → length xs ≤ total (λ i. count_by (is_of i) xs) peers
entries_total peers [] known = omega arith
entries_total peers (x ∷ xs) known =
    let first : (1 ≤ connection_of x.qp) × (connection_of x.qp ≤ peers) = All-head (λ y. (1 ≤ connection_of y.qp) × (connection_of y.qp ≤ peers)) x xs known in
    let rest = entries_total peers xs (All-tail (λ y. (1 ≤ connection_of y.qp) × (connection_of y.qp ≤ peers)) x xs known) in
    let one = one_counted (connection_of x.qp) peers first.1 in
    let more : total (λ i. count_by (is_of i) (x ∷ xs)) peers ≡ total (λ i. one_if (connection_of x.qp == i) + count_by (is_of i) xs) peers =
    total_same (λ i. one_if (connection_of x.qp == i) + count_by (is_of i) xs) (λ i. count_by (is_of i) (x ∷ xs)) peers (λ k below. count_cons (is_of k) x xs) in
    omega (arith, rest, one, more, total_both (λ i. one_if (connection_of x.qp == i)) (λ i. count_by (is_of i) xs) peers)

-- none is of connection 0
pub none_of_zero : (peers : ℕ) (xs : List Completion) → AreKnown peers xs → count_by (is_of 0) xs ≡ 0
none_of_zero peers [] known = refl
none_of_zero peers (x ∷ xs) known =
    let first : (1 ≤ connection_of x.qp) × (connection_of x.qp ≤ peers) = All-head (λ y. (1 ≤ connection_of y.qp) × (connection_of y.qp ≤ peers)) x xs known in
    let low = first.0 in
    let rest = none_of_zero peers xs (All-tail (λ y. (1 ≤ connection_of y.qp) × (connection_of y.qp ≤ peers)) x xs known) in
    let none : one_if (connection_of x.qp == 0) ≡ 0 = ap one_if (ne_eqb (connection_of x.qp) 0 (λ e. omega (arith, e, low))) in
    omega (arith, rest, none, count_cons (is_of 0) x xs)

-- a sum over the connections from 1 on, where each has at most 18
pub total_few : (f : ℕ → ℕ) (n : ℕ) → f 0 ≡ 0 → ((k : ℕ) → 1 ≤ k → k ≤ n → f k ≤ 18) → total f n ≤ 18 * n
total_few f zero none each = omega (arith, none)
total_few f (suc n) none each =
    let front = total_few f n none (λ k low below. each k low (omega (arith, below))) in
    let last = each (suc n) (omega arith) (omega arith) in
    omega (arith, front, last)

-- where at most 18 are of each connection, there are few
pub few_entries : (peers : ℕ) (xs : List Completion) → AreKnown peers xs → ((i : ℕ) → 1 ≤ i → i ≤ peers → count_by (is_of i) xs ≤ 18) → length xs ≤ 18 * peers
few_entries peers xs known each =
    let all = entries_total peers xs known in
    let few = total_few (λ i. count_by (is_of i) xs) peers (none_of_zero peers xs known) each in
    omega (arith, all, few)
