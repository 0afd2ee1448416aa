-- How the command ends, by what became of its text.
use Rattle.std.proofs.Common.{◌≡◌, inl, inr, ℕ, List, refl}
use Rattle.std.specs.Prelude.{Option, codes}
use Rattle.tools.specs.Endings.{IsWritten, done, no_memory}
use Rattle.tools.proofs.Ending.{ended}
use Rattle.mailbox_rules.specs.declared.plans.MailPlan.{MailPlan}
use Rattle.mailbox_rules.specs.Command.{mail_line}
use Rattle.tools.specs.Mails.{EndsMail, IsTextOf}

pub ended_done : (plan : MailPlan) (held held_after : Option (List ℕ)) (faults faults_after : ℕ) (text : List ℕ) (status : ℕ) → text ≡ mail_line plan → IsWritten held held_after faults faults_after text done status → EndsMail plan held held_after faults faults_after status
ended_done plan held held_after faults faults_after text status says is = ended (IsTextOf plan) held held_after faults faults_after text done status (λ e. absurd cc) (inl (refl, says)) is

pub ended_without_memory : (plan : MailPlan) (held held_after : Option (List ℕ)) (faults faults_after : ℕ) (status : ℕ) → IsWritten held held_after faults faults_after (codes "out of memory\n") no_memory status → EndsMail plan held held_after faults faults_after status
ended_without_memory plan held held_after faults faults_after status is = ended (IsTextOf plan) held held_after faults faults_after (codes "out of memory\n") no_memory status (λ e. absurd cc) (inr (refl, refl)) is
