-- At the beginning no completion stands, and no flag is set.
use Rattle.std.proofs.Common.{◌≡◌, ℕ, ◌-◌, ◌≤◌, [], true, false, sym, subst, ap, ◌∙◌, arith}
use Rattle.std.specs.Prelude.{All}
use Rattle.std.proofs.lemmas.List.Elements.{All-nil}
use Rattle.rdma_types.specs.Limits.{most_bytes}
use Rattle.protocol.specs.State.{empty_world}
use Rattle.packetless_machine.specs.Machine.{Machine, empty}
use Rattle.law_simulation.specs.Named.{RunsFollowByName}
use Rattle.law_simulation.specs.Stands.{Stands}
use Rattle.mailbox_rules.specs.Opening.{connection_of, opening_world, receiver, receiver_end, sender, sender_end}
use Rattle.mailbox_rules.specs.State.{Channel, made}
use Rattle.law_mailbox.specs.AlwaysFew.{BeginningIsFew}
use Rattle.law_mailbox.specs.Kept.{standing}
use Rattle.law_mailbox.proofs.flags.Errors.{AreErrorsTrue, IsTrueOf}
use Rattle.law_mailbox.proofs.flags.Truth.{IsHeldTrue}
use Rattle.law_mailbox.proofs.opening.Beginning.{first_channel}
use Rattle.law_mailbox.proofs.opening.Evaluated.{AllFound, Found, at_number, evaluated, found, found_in, made_for, made_for_all, opened, stands}
use Rattle.law_mailbox.proofs.opening.InRange.{opening_in_range}
use Rattle.law_mailbox.proofs.queue_room.FewMachines.{stands_alike}

module _ (follow : RunsFollowByName) (start : Stands empty_world empty) (peers : ℕ) (low : 1 ≤ peers) (high : peers ≤ 8) where
  w : Stands (opening_world most_bytes peers) (opened peers)
  w = stands follow start peers (opening_in_range peers high)

  all : found_in peers (opened peers) ≡ made_for_all peers
  all = at_number (λ n. found_in n (opened n)) made_for_all 8 peers evaluated low high

  one : (i : ℕ) → 1 ≤ i → i ≤ peers → found (opened peers) i ≡ made_for i
  one i = at_number (found (opened peers)) made_for peers i (ap (λ (a : AllFound). a.each) all)

  module _ (machine : Machine) (s : Stands (opening_world most_bytes peers) machine) where
    at_receiver : standing machine receiver ≡ []
    at_receiver = stands_alike (opening_world most_bytes peers) (opened peers) machine w s receiver ∙ ap (λ (f : Found). f.receiver_standing) (one 1 (omega arith) low)

    at_sender : (i : ℕ) → 1 ≤ i → i ≤ peers → standing machine (sender i) ≡ []
    at_sender i first last = stands_alike (opening_world most_bytes peers) (opened peers) machine w s (sender i) ∙ ap (λ (f : Found). f.sender_standing) (one i first last)

    no_errors : AreErrorsTrue peers machine
    no_errors = record {
      receivers = λ i first last. subst (All (λ x. connection_of x.qp ≡ i → IsTrueOf machine (receiver_end i) x)) (sym at_receiver) (All-nil (λ x. connection_of x.qp ≡ i → IsTrueOf machine (receiver_end i) x));
      senders = λ i first last. subst (All (IsTrueOf machine (sender_end i))) (sym (at_sender i first last)) (All-nil (IsTrueOf machine (sender_end i)));
    }

  pub begins_true : BeginningIsFew → IsHeldTrue peers [] (made peers)
  begins_true few = record {
    few = few peers low high;
    errors = no_errors;
    flags = record {
      at_receiver = λ i first last set. let no : false ≡ true = sym (ap (λ (c : Channel). c.receiver_ended) (first_channel peers (i - 1))) ∙ set in absurd (cc);
      at_sender = λ i first last set. let no : false ≡ true = sym (ap (λ (c : Channel). c.sender_ended) (first_channel peers (i - 1))) ∙ set in absurd (cc);
    };
  }
