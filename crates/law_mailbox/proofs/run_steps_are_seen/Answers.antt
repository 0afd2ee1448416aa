use Rattle.law_mailbox.proofs.connection.RunSteps.{run_steps}
use Rattle.law_mailbox.proofs.run_steps_are_seen.Goals as goal

pub returns : goal.returns
returns c = run_steps
