-- A Run of an end of a connection is seen as moves.
use Rattle.std.proofs.Common.{◌≡◌, ℕ, ◌≤◌, List, true, sym, subst, inl, inr}
use Rattle.rdma_types.specs.declared.names.ObjName.{ObjName}
use Rattle.packetless_machine.specs.declared.steps.MachineStep.{MachineStep}
use Rattle.packetless_machine.specs.declared.steps.MachineStep.TheVariants as steps
use Rattle.packetless_machine.specs.Legal.{effect, is_enabled}
use Rattle.packetless_machine.specs.Machine.{Machine}
use Rattle.packetless_machine.specs.Steps.{may_run, run}
use Rattle.mailbox_rules.specs.declared.due.Due.{Due}
use Rattle.mailbox_rules.specs.declared.letters.Letter.{Letter}
use Rattle.mailbox_rules.specs.Histories.{Placed}
use Rattle.mailbox_rules.specs.Opening.{receiver_end, sender_end}
use Rattle.mailbox_rules.specs.State.{Channel}
use Rattle.law_mailbox.specs.Kept.{IsKept, IsOpened, sight_of}
use Rattle.law_mailbox.specs.Seen.{IsRunStep, IsSeen, RunStepsAreSeen}
use Rattle.law_mailbox.proofs.connection.FreeRuns.{free_runs}
use Rattle.law_mailbox.proofs.connection.SenderRuns.{may_be_run, sender_runs}

run_step : (i : ℕ) (m : Machine) (owed : List Due) (c : Channel) (sent : List Letter) (open' : List Placed) (s : MachineStep) → 1 ≤ i → IsOpened m i → IsKept i (sight_of m owed i) c sent open' → IsRunStep i s → is_enabled m s ≡ true → IsSeen i owed m (effect m s)
run_step i m owed c sent open' (steps.Run q n) positive opened h (inl e) may =
    subst (λ (o : ObjName). IsSeen i owed m (run m o n)) (sym e)
    (sender_runs m owed i positive opened c sent open' h n (may_be_run m (sender_end i) (receiver_end i) n opened.sender_joined.peer_is (subst (λ (o : ObjName). may_run m o n ≡ true) e may)))
run_step i m owed c sent open' (steps.Run q n) positive opened h (inr e) may =
    subst (λ (o : ObjName). IsSeen i owed m (run m o n)) (sym e)
    (free_runs m owed i positive opened c sent open' h n (may_be_run m (receiver_end i) (sender_end i) n opened.receiver_joined.peer_is (subst (λ (o : ObjName). may_run m o n ≡ true) e may)))
run_step i m owed c sent open' s positive opened h own may = absurd own

pub run_steps : RunStepsAreSeen
run_steps i m owed c sent open' s positive opened h own may = run_step i m owed c sent open' s positive opened h own may
