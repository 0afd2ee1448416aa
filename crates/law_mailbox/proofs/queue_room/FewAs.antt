-- Few completions stand in the receiver's queue after a letter was stored, sent or taken, as before.
use Rattle.std.proofs.Common.{arith, ◌≡◌, ℕ, ◌+◌, ◌*◌, ◌≤◌, List, ◌++◌, length, sym, subst, ◌∙◌}
use Rattle.std.specs.Prelude.{All, count_by}
use Rattle.rdma_types.specs.declared.requests.Completion.{Completion}
use Rattle.packetless_machine.specs.Machine.{Machine, end_of, untold_count, used_count}
use Rattle.mailbox_rules.specs.declared.letters.Letter.{Letter}
use Rattle.mailbox_rules.specs.Histories.{Turn, fetched_before, sent_letters}
use Rattle.mailbox_rules.specs.Opening.{connection_of, receiver, receiver_end}
use Rattle.mailbox_rules.specs.State.{Mail, channel}
use Rattle.law_mailbox.specs.Few.{AreFew, IsFewOn, IsHeldFew, is_receive_of, is_request_of}
use Rattle.law_mailbox.specs.Finished.{line_of}
use Rattle.law_mailbox.specs.Held.{AreAllKept, IsHeld}
use Rattle.law_mailbox.specs.Kept.{bodies, copies, fetches, frees, reposts, standing}
use Rattle.law_mailbox.proofs.connection.Long.{fetched_append}
use Rattle.law_mailbox.proofs.work.Posted.{received_within}
use Rattle.law_mailbox.proofs.work.PostedAs.{IsHeldAs, IsPostedAs}

abbrev pub held_of : {peers : ℕ} {ts : List Turn} {m : Mail} → IsHeldFew peers ts m → IsHeld peers ts m
held_of h = record { machine = h.machine; stands = h.stands; senders = h.senders; all = h.all }

-- ---- one connection

-- where more letters were sent, no fewer long ones are among those that were received
still_few : (q : ℕ) (ts ts' : List Turn) (more : List Letter) (m m' : Mail) (machine machine' : Machine) → IsPostedAs q m m' machine machine' → standing machine' receiver ≡ standing machine receiver → sent_letters q ts' ≡ sent_letters q ts ++ more →
    (channel m q).receives ≤ length (sent_letters q ts) → IsFewOn q (end_of machine (receiver_end q)) (standing machine receiver) m.owed (channel m q) (sent_letters q ts) →
    IsFewOn q (end_of machine' (receiver_end q)) (standing machine' receiver) m'.owed (channel m' q) (sent_letters q ts')
still_few q ts ts' more m m' machine machine' same stand sent within few =
    let receives : count_by (is_receive_of q) (standing machine' receiver) + (used_count (end_of machine' (receiver_end q)).in_use + length (end_of machine' (receiver_end q)).unused) + (length (copies q m'.owed) + length (reposts q m'.owed))
    ≡ count_by (is_receive_of q) (standing machine receiver) + (used_count (end_of machine (receiver_end q)).in_use + length (end_of machine (receiver_end q)).unused) + (length (copies q m.owed) + length (reposts q m.owed)) =
    λ k. count_by (is_receive_of q) (stand k) + (used_count (same.receiver_same k).in_use + length (same.receiver_same k).unused) + (length (copies q (same.owed_same k)) + length (reposts q (same.owed_same k))) in
    let requests : count_by (is_request_of q) (standing machine' receiver) + untold_count (end_of machine' (receiver_end q)) + (length (fetches q m'.owed) + length (frees q m'.owed) + 2 * length (bodies q m'.owed)) + (channel m' q).reads
    ≡ count_by (is_request_of q) (standing machine receiver) + untold_count (end_of machine (receiver_end q)) + (length (fetches q m.owed) + length (frees q m.owed) + 2 * length (bodies q m.owed)) + (channel m q).reads =
    λ k. count_by (is_request_of q) (stand k) + untold_count (same.receiver_same k) + (length (fetches q (same.owed_same k)) + length (frees q (same.owed_same k)) + 2 * length (bodies q (same.owed_same k))) + (same.copied_same k).reads in
    let counted : fetched_before (channel m' q).receives (sent_letters q ts') ≡ fetched_before (channel m q).receives (sent_letters q ts) =
    (λ k. fetched_before (same.copied_same k).receives (sent k)) ∙ fetched_append (sent_letters q ts) more (channel m q).receives within in
    let before = few.receives in
    let asked = few.requests in
    record { receives = omega (arith, receives, before); requests = omega (arith, requests, counted, asked) }

-- ---- all connections

all_still_few : (peers : ℕ) (ts ts' : List Turn) (m m' : Mail) (machine : Machine) (more : ℕ → List Letter) → ((q : ℕ) → sent_letters q ts' ≡ sent_letters q ts ++ more q) → AreAllKept peers ts m machine → AreFew peers ts m machine →
    (a : IsHeldAs peers ts' m m' machine) → AreFew peers ts' m' a.held.machine
all_still_few peers ts ts' m m' machine more sent all few a = record {
  each = λ q low high.
      still_few q ts ts' (more q) m m' machine a.held.machine (a.as_posted q low high) a.standing_same (sent q) (received_within q (line_of machine m ts q) (all.kept q low high)) (few.each q low high);
  known = subst (λ (xs : List Completion). All (λ x. (1 ≤ connection_of x.qp) × (connection_of x.qp ≤ peers)) xs) (sym a.standing_same) few.known;
}

pub few_as : (peers : ℕ) (ts ts' : List Turn) (m m' : Mail) (more : ℕ → List Letter) → ((q : ℕ) → sent_letters q ts' ≡ sent_letters q ts ++ more q) → (h : IsHeldFew peers ts m) → IsHeldAs peers ts' m m' h.machine → IsHeldFew peers ts' m'
few_as peers ts ts' m m' more sent h a = record {
  machine = a.held.machine;
  stands = a.held.stands;
  senders = a.held.senders;
  all = a.held.all;
  few = all_still_few peers ts ts' m m' h.machine more sent h.all h.few a;
}
