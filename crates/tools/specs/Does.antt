-- What a run of the program does for its words, whichever command they spell.
use Rattle.std.specs.Prelude.{◌≡◌, ◌⊎◌, ℕ, Some}
use Rattle.program_rules.specs.Due.{IsDue, IsOutputSound}
use Rattle.program_rules.specs.Ends.{Ends}
use Rattle.program_rules.specs.Headline.{ImageText}
use Rattle.program_rules.specs.Runs.{ReadsInput, Run, UsesDepot, UsesLink, command}
use Rattle.completion_fanout.specs.declared.plan.FanPlan.{FanPlan}
use Rattle.mailbox_rules.specs.declared.plans.MailPlan.{MailPlan}
use Rattle.thread_plan.specs.declared.plan.ThreadPlan.{ThreadPlan}
use Rattle.tools.specs.Endings.{done, no_memory}
use Rattle.tools.specs.Fanout.{EndsFanout, fanout_of}
use Rattle.tools.specs.Mails.{EndsMail, mail_of}
use Rattle.tools.specs.Serial.{AreSerial}
use Rattle.tools.specs.ThreadEndings.{not_as_planned}
use Rattle.tools.specs.Threads.{EndsThreads, threads_of}

-- what holds of a run that ends with this number. What is the same object as before is given: the input; all but the output; link
-- and clock; the depot
pub record Does (said : ImageText) (r : Run) (SameInput SameButOutput SameLink SameDepot : Type 0) (number : ℕ) : Type 0 where
  -- `threads`: the line of a run that is as planned was written, or the line of what went wrong, or a part of it; and one of them
  -- whole where the output does not fail
  pub threads : (plan : ThreadPlan) → threads_of r.words ≡ Some plan → EndsThreads plan r.before.written r.after.written r.before.faults.output r.after.faults.output number
  pub threads_due : (plan : ThreadPlan) → threads_of r.words ≡ Some plan → IsOutputSound r → (number ≡ done) ⊎ (number ≡ no_memory) ⊎ (number ≡ not_as_planned)
  pub threads_keep : (plan : ThreadPlan) → threads_of r.words ≡ Some plan → SameInput × SameButOutput
  -- `fanout`: the same of the line of completions that were handed out, in a run that is as planned
  pub fanout : (plan : FanPlan) → fanout_of r.words ≡ Some plan → EndsFanout plan r.before.written r.after.written r.before.faults.output r.after.faults.output number
  pub fanout_due : (plan : FanPlan) → fanout_of r.words ≡ Some plan → IsOutputSound r → (number ≡ done) ⊎ (number ≡ no_memory) ⊎ (number ≡ not_as_planned)
  pub fanout_keep : (plan : FanPlan) → fanout_of r.words ≡ Some plan → SameInput × SameButOutput
  -- `mail`: the line of the plan, by the rules of letters, was written, or that memory ran out, or a part of it
  pub mail : (plan : MailPlan) → mail_of r.words ≡ Some plan → EndsMail plan r.before.written r.after.written r.before.faults.output r.after.faults.output number
  pub mail_due : (plan : MailPlan) → mail_of r.words ≡ Some plan → IsOutputSound r → (number ≡ done) ⊎ (number ≡ no_memory)
  pub mail_keep : (plan : MailPlan) → mail_of r.words ≡ Some plan → SameInput × SameButOutput
  -- all other words: the status says how the run ended, and is the one that is due
  pub ends : AreSerial r.words → Ends said r number
  pub due : AreSerial r.words → IsDue said r number
  pub kept_input : AreSerial r.words → (ReadsInput (command r) → ⊥) → SameInput
  pub kept_link : AreSerial r.words → (UsesLink (command r) → ⊥) → SameLink
  pub kept_depot : AreSerial r.words → (UsesDepot (command r) → ⊥) → SameDepot
