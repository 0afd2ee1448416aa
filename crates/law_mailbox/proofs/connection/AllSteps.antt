-- Each inner step of the machine is seen as moves of each connection, and keeps what is held.
use Rattle.std.proofs.Common.{◌≡◌, ◌≢◌, ℕ, ◌≤◌, true, false, Bool, refl, sym, subst, ap, ◌∙◌, inl, inr, ◌⊎◌, eqb-true}
use Rattle.std.specs.Prelude.{List, ◌==◌}
use Rattle.std.proofs.lemmas.Bool.{eqb-false}
use Rattle.std.proofs.lemmas.List.Elements.{All-append, All-weaker}
use Rattle.packetless_machine.specs.declared.steps.MachineStep.{MachineStep}
use Rattle.packetless_machine.specs.declared.steps.MachineStep.TheVariants as steps
use Rattle.packetless_machine.specs.Legal.{effect, is_enabled}
use Rattle.packetless_machine.specs.Machine.{Machine}
use Rattle.mailbox_rules.specs.Histories.{Turn, placed_letters, sent_letters}
use Rattle.mailbox_rules.specs.Opening.{receiver}
use Rattle.mailbox_rules.specs.State.{Mail, channel}
use Rattle.law_mailbox.specs.Held.{AreAllKept, AreOfSenders, AtReceiverOf, AtSenderOf, IsEndOf, IsInner, connection_in}
use Rattle.law_mailbox.specs.Kept.{dues_of, standing}
use Rattle.law_mailbox.specs.Seen.{InnerStepsAreSeen, InnerStepsKeep, IsOf, IsOwnStep, IsReadStep, IsRunStep, IsSeen}
use Rattle.law_mailbox.proofs.connection.Connected.{connected_kept, stepping, stepping_connected}
use Rattle.law_mailbox.proofs.connection.Longer.{dues_both}
use Rattle.law_mailbox.proofs.connection.OtherSteps.{other_steps}
use Rattle.law_mailbox.proofs.connection.OwnSteps.{own_steps}
use Rattle.law_mailbox.proofs.connection.ReadSteps.{read_steps}
use Rattle.law_mailbox.proofs.connection.RunSteps.{run_steps}
use Rattle.law_mailbox.proofs.connection.Seen.{seen_steps_keep}
use Rattle.law_mailbox.proofs.queue_room.Standing.{dues_of_it, steps_stand}

-- the steps of connection i
abbrev IsStepOf : ℕ → MachineStep → Type 0
IsStepOf i s = IsOwnStep i s ⊎ (IsReadStep i s ⊎ IsRunStep i s)

-- an inner step of one of its ends is one of them
step_of : (i : ℕ) (s : MachineStep) → IsInner s → IsOf i (stepping s) → IsStepOf i s
step_of i (steps.Verb verb given) inner of = absurd inner
step_of i (steps.Run q n) inner of = inr (inr of)
step_of i (steps.Atom q) inner of = inr (inl of)
step_of i (steps.ReadTurn q) inner (inl e) = inr (inl e)
step_of i (steps.ReadTurn q) inner (inr e) = inl e
step_of i (steps.Refuse q why) inner of = inr (inl of)
step_of i (steps.Dry q) inner of = inl of
step_of i (steps.Offer q k offset n) inner of = inr (inl of)
step_of i (steps.Land q k) inner of = inr (inl of)
step_of i (steps.Known q bytes) inner of = inl of
step_of i (steps.Tell q) inner of = inl of
step_of i (steps.Expire q) inner of = inl of
step_of i (steps.Wait q) inner of = inl of
step_of i (steps.Bounce q) inner of = inl of

module _ (peers : ℕ) (ts : List Turn) (m : Mail) (machine : Machine) (s : MachineStep) (inner : IsInner s) (enabled : is_enabled machine s ≡ true) (all : AreAllKept peers ts m machine) where
  seen_itself : (i : ℕ) → 1 ≤ i → i ≤ peers → IsStepOf i s → IsSeen i m.owed machine (effect machine s)
  seen_itself i low high (inl own) = own_steps i machine m.owed (channel m i) (sent_letters i ts) (placed_letters i ts) s low (all.opened i low high) (all.kept i low high) own enabled
  seen_itself i low high (inr (inl reads)) = read_steps i machine m.owed (channel m i) (sent_letters i ts) (placed_letters i ts) s low (all.opened i low high) (all.kept i low high) reads enabled
  seen_itself i low high (inr (inr runs)) = run_steps i machine m.owed (channel m i) (sent_letters i ts) (placed_letters i ts) s low (all.opened i low high) (all.kept i low high) runs enabled

  module _ (j : ℕ) (low' : 1 ≤ j) (high' : j ≤ peers) (step : IsStepOf j s) where
    seen_elsewhere : (i : ℕ) → 1 ≤ i → i ≤ peers → i ≢ j → IsSeen i m.owed machine (effect machine s)
    seen_elsewhere i low high other =
        other_steps i j machine m.owed (channel m j) (sent_letters j ts) (placed_letters j ts) s low low' other (all.opened i low high) (all.opened j low' high') (all.kept j low' high') step enabled

    seen_each : (i : ℕ) → 1 ≤ i → i ≤ peers → IsSeen i m.owed machine (effect machine s)
    seen_each i low high = by (i == j) refl
      where
        by : (b : Bool) → (i == j) ≡ b → IsSeen i m.owed machine (effect machine s)
        by true e = seen_itself i low high (subst (λ (k : ℕ). IsStepOf k s) (sym (eqb-true i j e)) step)
        by false e = seen_elsewhere i low high (eqb-false i j e)

  -- what stands in the receiver's queue then is of one of the connections
  stands_of : (j : ℕ) → 1 ≤ j → j ≤ peers → IsOf j (stepping s) → AreOfSenders peers (dues_of 0 (standing machine receiver)) → AreOfSenders peers (dues_of 0 (standing (effect machine s) receiver))
  stands_of j low high of known =
      let k = steps_stand machine j (all.opened j low high) (all.kept j low high).number s inner of enabled in
      subst (AreOfSenders peers) (sym (ap (dues_of 0) k.stands ∙ dues_both 0 (standing machine receiver) k.more))
      (All-append (λ d. (1 ≤ connection_in d) × (connection_in d ≤ peers)) (dues_of 0 (standing machine receiver)) (dues_of 0 k.more) known
      (All-weaker (λ d. connection_in d ≡ j) (λ d. (1 ≤ connection_in d) × (connection_in d ≤ peers)) (λ d e. subst (λ (i : ℕ). (1 ≤ i) × (i ≤ peers)) (sym e) (low, high)) (dues_of 0 k.more) (dues_of_it j k.more k.are.of_it)))

  stands_by : IsEndOf peers (stepping s) → AreOfSenders peers (dues_of 0 (standing machine receiver)) → AreOfSenders peers (dues_of 0 (standing (effect machine s) receiver))
  stands_by (AtSenderOf j low high e) = stands_of j low high (inl e)
  stands_by (AtReceiverOf j low high e) = stands_of j low high (inr e)

  seen_by : IsEndOf peers (stepping s) → (i : ℕ) → 1 ≤ i → i ≤ peers → IsSeen i m.owed machine (effect machine s)
  seen_by (AtSenderOf j low' high' e) = seen_each j low' high' (step_of j s inner (inl e))
  seen_by (AtReceiverOf j low' high' e) = seen_each j low' high' (step_of j s inner (inr e))

pub all_seen : InnerStepsAreSeen
all_seen peers ts m machine s inner enabled all = record {
  each = seen_by peers ts m machine s inner enabled all (all.joined (stepping s) (stepping_connected machine s inner enabled));
  joined = connected_kept machine s inner;
  dues = stands_by peers ts m machine s inner enabled all (all.joined (stepping s) (stepping_connected machine s inner enabled));
}

pub all_keep : InnerStepsKeep
all_keep peers = seen_steps_keep peers (all_seen peers)
