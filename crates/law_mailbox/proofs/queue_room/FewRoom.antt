-- The receiver's queue has room, where few completions stand there for each connection, and few of its places are reserved.
use Rattle.std.proofs.Common.{arith, ◌≡◌, ℕ, ◌+◌, ◌<◌, ◌≤◌, List, [], ◌∷◌, length, get_or, true, false, Bool, refl, ap, ◌∙◌, ◌≢◌}
use Rattle.std.specs.Prelude.{bytes_eq, count_by, if◌then◌else◌, not, sum_by, ◌%◌, ◌&&◌, ◌==◌}
use Rattle.rdma_types.specs.declared.names.Name.{Name}
use Rattle.rdma_types.specs.declared.requests.Completion.{Completion}
use Rattle.rdma_types.proofs.Tables.{same_name}
use Rattle.packetless_machine.specs.Machine.{End, Machine, context_of, end_of, nobody, queue_of, reserved, reserved_by, untold_count, used_count}
use Rattle.mailbox_rules.specs.Histories.{Turn, fetched_before, sent_letters}
use Rattle.mailbox_rules.specs.Opening.{connection_of, numbered, queue_name, receiver, receiver_end}
use Rattle.mailbox_rules.specs.State.{Mail, channel}
use Rattle.law_mailbox.specs.Answered.{IsFurnished, Plan, for_each}
use Rattle.law_mailbox.specs.Few.{AreFew, FewHaveRoom, IsFewOn, is_receive, is_receive_of, is_request_of}
use Rattle.law_mailbox.specs.Held.{AreAllKept}
use Rattle.law_mailbox.specs.Kept.{IsJoined, standing}
use Rattle.law_mailbox.proofs.queue_room.Counts.{count_cons, one_if}
use Rattle.law_mailbox.proofs.connection.Listed.{all_listed}
use Rattle.law_mailbox.proofs.connection.Places.{copied_long}
use Rattle.law_mailbox.proofs.work.Posted.{at_most}
use Rattle.law_mailbox.proofs.queue_room.Totals.{counted_over, over, over_both, over_within, summed_over}

-- ---- the receiver's ends

ends_apart : (i k : ℕ) → i < k → k ≤ 8 → numbered 113 i ≢ numbered 113 k
ends_apart i k less high e =
    let digit : 48 + i % 10 ≡ 48 + k % 10 = ap (λ (n : Name). get_or n 1 0) e in
    omega (arith, digit, less, high)

-- they are the ends for the senders, in order
ends_are : (peers : ℕ) → peers ≤ 8 → (m : Machine) → IsFurnished peers m → (context_of m receiver).ends ≡ for_each (λ i. end_of m (receiver_end i)) peers
unfolding end_of
ends_are peers small m f =
    all_listed (λ e. e.name) (λ n. nobody (record { context = receiver; name = n })) (numbered 113) peers (context_of m receiver).ends (λ i k less within. ends_apart i k less (omega (arith, within, small))) (ap (λ (p : Plan). p.ends) f.at_receiver)

-- all their requests and receives complete in one queue
one_reserves : (e : End) {peer : _} → IsJoined e peer → reserved_by queue_name e ≡ untold_count e + (used_count e.in_use + length e.unused)
unfolding reserved_by
one_reserves e j =
    let sends : bytes_eq e.send_queue queue_name ≡ true = ap (λ (q : Name). bytes_eq q queue_name) j.send_queue ∙ same_name queue_name in
    let receives : bytes_eq e.receive_queue queue_name ≡ true = ap (λ (q : Name). bytes_eq q queue_name) j.receive_queue ∙ same_name queue_name in
    λ k. (if sends k then untold_count e else 0) + (if receives k then used_count e.in_use + length e.unused else 0)

all_reserved : (peers : ℕ) → peers ≤ 8 → (m : Machine) → IsFurnished peers m → reserved (context_of m receiver) queue_name ≡ over (λ i. reserved_by queue_name (end_of m (receiver_end i))) peers
unfolding reserved
all_reserved peers small m f = ap (sum_by (reserved_by queue_name)) (ends_are peers small m f) ∙ summed_over (reserved_by queue_name) (λ i. end_of m (receiver_end i)) peers

-- ---- one connection

-- a completion of it is of a receive or of a request
of_either : (i : ℕ) (xs : List Completion) → count_by (λ x. connection_of x.qp == i) xs ≡ count_by (is_receive_of i) xs + count_by (is_request_of i) xs
of_either i [] = refl
of_either i (x ∷ xs) =
    let rest = of_either i xs in
    let one = either (connection_of x.qp == i) (is_receive x.kind) in
    omega (arith, rest, one, count_cons (λ y. connection_of y.qp == i) x xs, count_cons (is_receive_of i) x xs, count_cons (is_request_of i) x xs)
  where
    either : (a b : Bool) → one_if a ≡ one_if (a && b) + one_if (a && not b)
    either true true = refl
    either true false = refl
    either false b = refl

module _ (peers : ℕ) (ts : List Turn) (m : Mail) (machine : Machine) (all : AreAllKept peers ts m machine) (few : AreFew peers ts m machine) (i : ℕ) (low : 1 ≤ i) (high : i ≤ peers) where
  -- at most one long letter was copied of which the slot is not to be freed
  one_waits : fetched_before (channel m i).receives (sent_letters i ts) ≤ (channel m i).reads + 1
  one_waits =
      let kept = all.kept i low high in
      let freed = kept.counts.slot_freed in
      let acted = kept.counts.acted_within in
      let posted = kept.counts.frees_posted in
      omega (arith, freed, acted, posted, copied_long (channel m i).receives (sent_letters i ts), at_most (channel m i).slot_in_use)

  few_of_one : count_by (λ x. connection_of x.qp == i) (standing machine receiver) + reserved_by queue_name (end_of machine (receiver_end i)) ≤ 18
  few_of_one =
      let on : IsFewOn i (end_of machine (receiver_end i)) (standing machine receiver) m.owed (channel m i) (sent_letters i ts) = few.each i low high in
      let receives = on.receives in
      let requests = on.requests in
      omega (arith, receives, requests, one_waits, of_either i (standing machine receiver), one_reserves (end_of machine (receiver_end i)) (all.opened i low high).receiver_joined)

-- ---- all connections

pub few_room : FewHaveRoom
unfolding queue_of
few_room peers small ts m machine all furnished few =
    let entries = counted_over (λ x. connection_of x.qp) peers (standing machine receiver) few.known in
    let reserves = all_reserved peers small machine furnished in
    let both = over_both (λ i. count_by (λ x. connection_of x.qp == i) (standing machine receiver)) (λ i. reserved_by queue_name (end_of machine (receiver_end i))) peers in
    let each = over_within (λ i. count_by (λ x. connection_of x.qp == i) (standing machine receiver) + reserved_by queue_name (end_of machine (receiver_end i))) 18 peers (few_of_one peers ts m machine all few) in
    omega (arith, entries, reserves, both, each)
