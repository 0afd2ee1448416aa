-- The steps that move no bytes are seen as moves.
use Rattle.std.proofs.Common.{◌≡◌, ℕ, ◌%◌, ◌≤◌, List, true, sym, subst, ◌⊎◌, inl, inr}
use Rattle.rdma_types.specs.declared.names.ObjName.{ObjName}
use Rattle.packetless_machine.specs.declared.steps.MachineStep.{MachineStep}
use Rattle.packetless_machine.specs.declared.steps.MachineStep.TheVariants as steps
use Rattle.packetless_machine.specs.Legal.{effect, is_enabled}
use Rattle.packetless_machine.specs.Machine.{Machine, end_of}
use Rattle.packetless_machine.specs.Steps.{bounce, dried, expire, knowing, may_know, may_read, may_tell, read_turn, tell, wait}
use Rattle.mailbox_rules.specs.declared.due.Due.{Due}
use Rattle.mailbox_rules.specs.declared.letters.Letter.{Letter}
use Rattle.mailbox_rules.specs.Histories.{Placed}
use Rattle.mailbox_rules.specs.Opening.{receiver_end}
use Rattle.mailbox_rules.specs.State.{Channel}
use Rattle.law_mailbox.specs.Kept.{IsKept, IsOpened, sight_of}
use Rattle.law_mailbox.specs.Seen.{IsOwnStep, IsSeen, OwnStepsAreSeen}
use Rattle.law_mailbox.proofs.connection.Fails.{receiver_bounce, receiver_expiry, receiver_wait, sender_bounce, sender_expiry, sender_wait}
use Rattle.law_mailbox.proofs.connection.Quiet.{parity, receiver_dries, receiver_knows, receiver_turns, sender_dries, sender_knows}
use Rattle.law_mailbox.proofs.connection.ReadTells.{read_may_tell}
use Rattle.law_mailbox.proofs.connection.Tells.{receiver_may_tell, sender_tells}

receiver_told_either : (m : Machine) (owed : List Due) (i : ℕ) → 1 ≤ i → IsOpened m i → (c : Channel) (sent : List Letter) (open' : List Placed) → IsKept i (sight_of m owed i) c sent open' → may_tell m (receiver_end i) ≡ true →
    ((end_of m (receiver_end i)).told % 2 ≡ 0) ⊎ ((end_of m (receiver_end i)).told % 2 ≡ 1) → IsSeen i owed m (tell m (receiver_end i))
receiver_told_either m owed i positive opened c sent open' h may (inl even) = read_may_tell m owed i positive opened c sent open' h even may
receiver_told_either m owed i positive opened c sent open' h may (inr odd) = receiver_may_tell m owed i positive opened c sent open' h odd may

own_step : (i : ℕ) (m : Machine) (owed : List Due) (c : Channel) (sent : List Letter) (open' : List Placed) (s : MachineStep) → 1 ≤ i → IsOpened m i → IsKept i (sight_of m owed i) c sent open' → IsOwnStep i s → is_enabled m s ≡ true → IsSeen i owed m (effect m s)
own_step i m owed c sent open' (steps.Known q bytes) positive opened h (inl e) may = subst (λ (o : ObjName). IsSeen i owed m (knowing m o bytes)) (sym e) (sender_knows m owed i opened c sent open' h bytes)
own_step i m owed c sent open' (steps.Known q bytes) positive opened h (inr e) may =
    subst (λ (o : ObjName). IsSeen i owed m (knowing m o bytes)) (sym e) (receiver_knows m owed i opened c sent open' h bytes (subst (λ (o : ObjName). may_know m o bytes ≡ true) e may))
own_step i m owed c sent open' (steps.Dry q) positive opened h (inl e) may = subst (λ (o : ObjName). IsSeen i owed m (dried m o)) (sym e) (sender_dries m owed i opened c sent open' h)
own_step i m owed c sent open' (steps.Dry q) positive opened h (inr e) may = subst (λ (o : ObjName). IsSeen i owed m (dried m o)) (sym e) (receiver_dries m owed i opened c sent open' h)
own_step i m owed c sent open' (steps.Expire q) positive opened h (inl e) may = subst (λ (o : ObjName). IsSeen i owed m (expire m o)) (sym e) (sender_expiry m owed i opened c sent open' h)
own_step i m owed c sent open' (steps.Expire q) positive opened h (inr e) may = subst (λ (o : ObjName). IsSeen i owed m (expire m o)) (sym e) (receiver_expiry m owed i opened c sent open' h)
own_step i m owed c sent open' (steps.Bounce q) positive opened h (inl e) may = subst (λ (o : ObjName). IsSeen i owed m (bounce m o)) (sym e) (sender_bounce m owed i opened c sent open' h)
own_step i m owed c sent open' (steps.Bounce q) positive opened h (inr e) may = subst (λ (o : ObjName). IsSeen i owed m (bounce m o)) (sym e) (receiver_bounce m owed i opened c sent open' h)
own_step i m owed c sent open' (steps.ReadTurn q) positive opened h e may =
    subst (λ (o : ObjName). IsSeen i owed m (read_turn m o)) (sym e) (receiver_turns m owed i opened c sent open' h (subst (λ (o : ObjName). may_read m o ≡ true) e may))
own_step i m owed c sent open' (steps.Wait q) positive opened h (inl e) may = subst (λ (o : ObjName). IsSeen i owed m (wait m o)) (sym e) (sender_wait m owed i opened c sent open' h)
own_step i m owed c sent open' (steps.Wait q) positive opened h (inr e) may = subst (λ (o : ObjName). IsSeen i owed m (wait m o)) (sym e) (receiver_wait m owed i opened c sent open' h)
own_step i m owed c sent open' (steps.Tell q) positive opened h (inl e) may = subst (λ (o : ObjName). IsSeen i owed m (tell m o)) (sym e) (sender_tells m owed i positive opened c sent open' h)
own_step i m owed c sent open' (steps.Tell q) positive opened h (inr e) may =
    subst (λ (o : ObjName). IsSeen i owed m (tell m o)) (sym e)
    (receiver_told_either m owed i positive opened c sent open' h (subst (λ (o : ObjName). may_tell m o ≡ true) e may) (parity (end_of m (receiver_end i)).told))
own_step i m owed c sent open' s positive opened h own may = absurd own

pub own_steps : OwnStepsAreSeen
own_steps i m owed c sent open' s positive opened h own may = own_step i m owed c sent open' s positive opened h own may
