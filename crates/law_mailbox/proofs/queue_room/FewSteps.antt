-- Inner steps keep it so that few completions stand in the receiver's queue.
use Rattle.std.proofs.Common.{arith, ◌≡◌, ◌≢◌, ℕ, ◌+◌, ◌≤◌, List, true, false, Bool, refl, sym, subst, inl, inr, eqb-true}
use Rattle.std.specs.Prelude.{All, count_by, not, ◌==◌}
use Rattle.std.proofs.lemmas.Bool.{eqb-false}
use Rattle.std.proofs.lemmas.List.Elements.{All-append, All-weaker}
use Rattle.rdma_types.specs.declared.requests.Completion.{Completion}
use Rattle.packetless_machine.specs.Legal.{effect}
use Rattle.packetless_machine.specs.Machine.{Machine, end_of}
use Rattle.mailbox_rules.specs.Histories.{Turn, sent_letters}
use Rattle.mailbox_rules.specs.Opening.{connection_of, receiver, receiver_end}
use Rattle.mailbox_rules.specs.State.{Mail, channel}
use Rattle.law_mailbox.specs.Few.{AreFew, IsFewOn, StepsKeepFew, is_receive, is_receive_of, is_request_of}
use Rattle.law_mailbox.specs.Held.{AreAllKept, AtReceiverOf, AtSenderOf, IsEndOf}
use Rattle.law_mailbox.specs.Kept.{standing}
use Rattle.law_mailbox.specs.Seen.{IsOf}
use Rattle.law_mailbox.proofs.connection.Connected.{stepping, stepping_connected}
use Rattle.law_mailbox.proofs.queue_room.Counts.{count_both}
use Rattle.law_mailbox.proofs.queue_room.Entries.{count_other, count_own}
use Rattle.law_mailbox.proofs.connection.Others.{elsewhere, names_apart}
use Rattle.law_mailbox.proofs.queue_room.Standing.{IsStandingMore, steps_stand}

-- ---- where more of connection j stands, which its end had left

module _ (peers : ℕ) (ts : List Turn) (m : Mail) (machine machine' : Machine) (all : AreAllKept peers ts m machine) (few : AreFew peers ts m machine) (j : ℕ) (low : 1 ≤ j) (high : j ≤ peers) (k : IsStandingMore j machine machine') where
  -- of connection i
  abbrev FewOn : ℕ → Type 0
  FewOn i = IsFewOn i (end_of machine' (receiver_end i)) (standing machine' receiver) m.owed (channel m i) (sent_letters i ts)

  counts : (p : Completion → Bool) → count_by p (standing machine' receiver) ≡ count_by p (standing machine receiver) + count_by p k.more
  counts p = subst (λ (xs : List Completion). count_by p xs ≡ count_by p (standing machine receiver) + count_by p k.more) (sym k.stands) (count_both p (standing machine receiver) k.more)

  own_few : FewOn j
  own_few =
      let f = few.each j low high in
      record {
        receives =
            let c = counts (is_receive_of j) in
            let own = count_own is_receive j k.more in
            let within = k.are.receives_within in
            let fit = k.receives_fit in
            let before = f.receives in
            omega (arith, c, own, within, fit, before);
        requests =
            let c = counts (is_request_of j) in
            let own = count_own (λ x. not (is_receive x)) j k.more in
            let within = k.are.requests_within in
            let fit = k.requests_fit in
            let before = f.requests in
            omega (arith, c, own, within, fit, before);
      }

  other_few : (i : ℕ) → 1 ≤ i → i ≤ peers → i ≢ j → FewOn i
  other_few i low' high' other =
      let f = few.each i low' high' in
      let y = all.opened j low high in
      let apart = (elsewhere machine i j (names_apart machine i j (all.opened i low' high') y other) y (receiver_end j) (inr refl)).no_receiver in
      record {
        receives =
            let c = counts (is_receive_of i) in
            let none = count_other is_receive i j other k.more k.are.of_it in
            let same = k.others_receive i apart in
            let before = f.receives in
            omega (arith, c, none, same, before);
        requests =
            let c = counts (is_request_of i) in
            let none = count_other (λ x. not (is_receive x)) i j other k.more k.are.of_it in
            let same = k.others_request i apart in
            let before = f.requests in
            omega (arith, c, none, same, before);
      }

  each_few : (i : ℕ) → 1 ≤ i → i ≤ peers → FewOn i
  each_few i low' high' = by (i == j) refl
    where
      by : (b : Bool) → (i == j) ≡ b → FewOn i
      by true e = subst FewOn (sym (eqb-true i j e)) own_few
      by false e = other_few i low' high' (eqb-false i j e)

  few_then : AreFew peers ts m machine'
  few_then = record {
    each = each_few;
    known =
        subst (All (λ x. (1 ≤ connection_of x.qp) × (connection_of x.qp ≤ peers))) (sym k.stands)
        (All-append (λ x. (1 ≤ connection_of x.qp) × (connection_of x.qp ≤ peers)) (standing machine receiver) k.more few.known
        (All-weaker (λ x. connection_of x.qp ≡ j) (λ x. (1 ≤ connection_of x.qp) × (connection_of x.qp ≤ peers)) (λ x e. subst (λ (i : ℕ). (1 ≤ i) × (i ≤ peers)) (sym e) (low, high)) k.more k.are.of_it));
  }

-- ---- each step

pub steps_keep_few : StepsKeepFew
steps_keep_few peers ts m machine s inner enabled all few = by (all.joined (stepping s) (stepping_connected machine s inner enabled))
  where
    of_connection : (j : ℕ) → 1 ≤ j → j ≤ peers → IsOf j (stepping s) → AreFew peers ts m (effect machine s)
    of_connection j low high of = few_then peers ts m machine (effect machine s) all few j low high (steps_stand machine j (all.opened j low high) (all.kept j low high).number s inner of enabled)

    by : IsEndOf peers (stepping s) → AreFew peers ts m (effect machine s)
    by (AtSenderOf j low high e) = of_connection j low high (inl e)
    by (AtReceiverOf j low high e) = of_connection j low high (inr e)
