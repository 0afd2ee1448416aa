-- An end of a connection comes to Error by its last expiry or its last wait, or where it learns of a refusal.
use Rattle.std.proofs.Common.{◌≡◌, ◌≢◌, ℕ, ◌≤◌, true, false, Bool, refl, sym, subst, ap, ◌∙◌, ◌⊎◌, inl, inr}
use Rattle.rdma_types.specs.declared.answers.RefusalReason.{RefusalReason}
use Rattle.rdma_types.specs.declared.names.ObjName.{ObjName}
use Rattle.packetless_machine.specs.declared.steps.MachineStep.{MachineStep}
use Rattle.packetless_machine.specs.declared.steps.MachineStep.TheVariants as steps
use Rattle.packetless_machine.specs.Legal.{effect, is_enabled}
use Rattle.packetless_machine.specs.Machine.{Machine, end_of}
use Rattle.law_simulation.proofs.relation.Tables.{name_or_not}
use Rattle.law_mailbox.specs.Ending.{EndsByExpiry, EndsEndSo, EndsIt, NoRequestIsRefused}
use Rattle.law_mailbox.specs.Held.{AtReceiverOf, AtSenderOf, IsEndOf}
use Rattle.law_mailbox.specs.Seen.{IsOf}
use Rattle.law_mailbox.proofs.connection.Connected.{stepping, stepping_connected}
use Rattle.law_mailbox.proofs.queue_room.Standing.{IsStepOf, QuietStep, SettledStep, steps_are}

-- a name is the same or another
object_or_not : (a b : ObjName) → (a ≡ b) ⊎ (a ≢ b)
object_or_not a b = by (name_or_not a.context b.context) (name_or_not a.name b.name)
  where
    by : (a.context ≡ b.context) ⊎ (a.context ≢ b.context) → (a.name ≡ b.name) ⊎ (a.name ≢ b.name) → (a ≡ b) ⊎ (a ≢ b)
    by (inl c) (inl n) = inl (λ t. record { context = c t; name = n t })
    by (inl c) (inr apart) = inr (λ e. apart (ap (λ (o : ObjName). o.name) e))
    by (inr apart) n = inr (λ e. apart (ap (λ (o : ObjName). o.context) e))

not_both : (b : Bool) → b ≡ false → b ≡ true → ⊥
not_both true e f = cc
not_both false e f = cc

-- of a step of connection j
step_ends : (j : ℕ) (E : ObjName → Type 0) (m m' : Machine) (o : ObjName) → IsStepOf j E m m' → (end_of m o).ended ≡ false → (end_of m' o).ended ≡ true → E o
step_ends j E m m' o (QuietStep quiet) live over = absurd (not_both (end_of m o).ended live (sym (quiet.ends o).ended ∙ over))
step_ends j E m m' o (SettledStep p e queues of s k why) live over = by (object_or_not o p)
  where
    here : (q : ObjName) → q ≡ p → (end_of m q).ended ≡ false → (end_of m' q).ended ≡ true → ((end_of m p).ended ≡ true) ⊎ E p → E q
    here q is live' over' (inl was) = absurd (not_both (end_of m q).ended live' (ap (λ (z : ObjName). (end_of m z).ended) is ∙ was))
    here q is live' over' (inr given) = subst E (sym is) given

    by : (o ≡ p) ⊎ (o ≢ p) → E o
    by (inl is) = here o is live over (why (sym s.here.ended ∙ (sym (ap (λ (z : ObjName). (end_of m' z).ended) is) ∙ over)))
    by (inr apart) = absurd (not_both (end_of m o).ended live (sym (s.others o apart).ended ∙ over))

-- a refusal is none
without_refusals : (m : Machine) (o : ObjName) (s : MachineStep) → ((q : ObjName) (why : RefusalReason) → s ≡ steps.Refuse q why → ⊥) → EndsIt m o s → EndsByExpiry m o s
without_refusals m o (steps.Refuse q why) never ends = never q why refl
without_refusals m o (steps.Verb verb given) never ends = ends
without_refusals m o (steps.Run q n) never ends = ends
without_refusals m o (steps.Atom q) never ends = ends
without_refusals m o (steps.ReadTurn q) never ends = ends
without_refusals m o (steps.Dry q) never ends = ends
without_refusals m o (steps.Offer q k offset n) never ends = ends
without_refusals m o (steps.Land q k) never ends = ends
without_refusals m o (steps.Known q bytes) never ends = ends
without_refusals m o (steps.Tell q) never ends = ends
without_refusals m o (steps.Expire q) never ends = ends
without_refusals m o (steps.Wait q) never ends = ends
without_refusals m o (steps.Bounce q) never ends = ends

pub end_so : NoRequestIsRefused → EndsEndSo
end_so never peers ts m machine s o inner may all of live over = without_refusals machine o s (λ q why is. never peers ts m machine q why all (subst (λ (z : MachineStep). is_enabled machine z ≡ true) is may)) (by (all.joined (stepping s) (stepping_connected machine s inner may)))
  where
    at : (j : ℕ) → 1 ≤ j → j ≤ peers → IsOf j (stepping s) → EndsIt machine o s
    at j low high is = step_ends j (λ p. EndsIt machine p s) machine (effect machine s) o (steps_are machine j (all.opened j low high) (all.kept j low high).number s inner is may) live over

    by : IsEndOf peers (stepping s) → EndsIt machine o s
    by (AtSenderOf j low high e) = at j low high (inl e)
    by (AtReceiverOf j low high e) = at j low high (inr e)
