-- The steps that move bytes of Reads are seen as moves, and so are refusals.
use Rattle.std.proofs.Common.{◌≡◌, ℕ, ◌≤◌, List, true, sym, subst, inl, inr}
use Rattle.rdma_types.specs.declared.names.ObjName.{ObjName}
use Rattle.packetless_machine.specs.declared.steps.MachineStep.{MachineStep}
use Rattle.packetless_machine.specs.declared.steps.MachineStep.TheVariants as steps
use Rattle.packetless_machine.specs.Legal.{effect, is_enabled}
use Rattle.packetless_machine.specs.Machine.{Machine}
use Rattle.packetless_machine.specs.Steps.{landed, may_atom, may_land, may_offer, may_read, offered, refuse}
use Rattle.mailbox_rules.specs.declared.due.Due.{Due}
use Rattle.mailbox_rules.specs.declared.letters.Letter.{Letter}
use Rattle.mailbox_rules.specs.Histories.{Placed}
use Rattle.mailbox_rules.specs.State.{Channel}
use Rattle.law_mailbox.specs.Kept.{IsKept, IsOpened, sight_of}
use Rattle.law_mailbox.specs.Seen.{IsReadStep, IsSeen, ReadStepsAreSeen}
use Rattle.law_mailbox.proofs.connection.Lands.{receiver_lands}
use Rattle.law_mailbox.proofs.connection.NotEnabled.{receiver_atoms_not, sender_atoms_not, sender_lands_not, sender_offers_not, sender_turns_not}
use Rattle.law_mailbox.proofs.connection.Offers.{receiver_offers}
use Rattle.law_mailbox.proofs.connection.Refusals.{receiver_refused, sender_refused}

read_step : (i : ℕ) (m : Machine) (owed : List Due) (c : Channel) (sent : List Letter) (open' : List Placed) (s : MachineStep) → 1 ≤ i → IsOpened m i → IsKept i (sight_of m owed i) c sent open' → IsReadStep i s → is_enabled m s ≡ true → IsSeen i owed m (effect m s)
read_step i m owed c sent open' (steps.Offer q k offset n) positive opened h (inl e) may = absurd (sender_offers_not m owed i c sent open' h k offset n (subst (λ (o : ObjName). may_offer m o k offset n ≡ true) e may))
read_step i m owed c sent open' (steps.Offer q k offset n) positive opened h (inr e) may =
    subst (λ (o : ObjName). IsSeen i owed m (offered m o k offset n)) (sym e) (receiver_offers m owed i opened c sent open' h k offset n (subst (λ (o : ObjName). may_offer m o k offset n ≡ true) e may))
read_step i m owed c sent open' (steps.Land q k) positive opened h (inl e) may = absurd (sender_lands_not m owed i c sent open' h k (subst (λ (o : ObjName). may_land m o k ≡ true) e may))
read_step i m owed c sent open' (steps.Land q k) positive opened h (inr e) may =
    subst (λ (o : ObjName). IsSeen i owed m (landed m o k)) (sym e) (receiver_lands m owed i opened c sent open' h k (subst (λ (o : ObjName). may_land m o k ≡ true) e may))
read_step i m owed c sent open' (steps.Refuse q why) positive opened h (inl e) may = subst (λ (o : ObjName). IsSeen i owed m (refuse m o why)) (sym e) (sender_refused m owed i opened c sent open' h why)
read_step i m owed c sent open' (steps.Refuse q why) positive opened h (inr e) may = subst (λ (o : ObjName). IsSeen i owed m (refuse m o why)) (sym e) (receiver_refused m owed i opened c sent open' h why)
read_step i m owed c sent open' (steps.Atom q) positive opened h (inl e) may = absurd (sender_atoms_not m owed i c sent open' h (subst (λ (o : ObjName). may_atom m o ≡ true) e may))
read_step i m owed c sent open' (steps.Atom q) positive opened h (inr e) may = absurd (receiver_atoms_not m owed i c sent open' h (subst (λ (o : ObjName). may_atom m o ≡ true) e may))
read_step i m owed c sent open' (steps.ReadTurn q) positive opened h e may = absurd (sender_turns_not m owed i c sent open' h (subst (λ (o : ObjName). may_read m o ≡ true) e may))
read_step i m owed c sent open' s positive opened h of may = absurd of

pub read_steps : ReadStepsAreSeen
read_steps i m owed c sent open' s positive opened h of may = read_step i m owed c sent open' s positive opened h of may
