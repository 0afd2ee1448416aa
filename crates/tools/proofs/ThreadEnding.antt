-- How the command ends, by what became of its text.
use Rattle.std.proofs.Common.{inl, inr, ℕ, List, IfOk, Result, Ok, Err, refl}
use Rattle.std.specs.Prelude.{Option}
use Rattle.tools.specs.Endings.{IsWritten, done, no_memory}
use Rattle.tools.proofs.Ending as ending
use Rattle.thread_plan.specs.declared.plan.PlanFault.{PlanFault}
use Rattle.thread_plan.specs.declared.plan.PlanFault.TheVariants as fault
use Rattle.tools.specs.ThreadEndings.{EndsRun, IsTextOf, not_as_planned, status_of, text_of}

module _ (IsLine : List ℕ → Type 0) (held held_after : Option (List ℕ)) (faults faults_after : ℕ) where
  pub ended : (told : Result (List ℕ) PlanFault) (status : ℕ) → IfOk told IsLine → IsWritten held held_after faults faults_after (text_of told) (status_of told) status → EndsRun IsLine held held_after faults faults_after status
  ended (Ok line) status says is = ending.ended (IsTextOf IsLine) held held_after faults faults_after line done status (λ e. absurd cc) (inl (refl, says)) is
  ended (Err fault.OutOfMemory) status says is = ending.ended (IsTextOf IsLine) held held_after faults faults_after (text_of (Err fault.OutOfMemory)) no_memory status (λ e. absurd cc) (inr (inl (refl, refl))) is
  ended (Err fault.NotAsPlanned) status says is = ending.ended (IsTextOf IsLine) held held_after faults faults_after (text_of (Err fault.NotAsPlanned)) not_as_planned status (λ e. absurd cc) (inr (inr (refl, refl))) is
