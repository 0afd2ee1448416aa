use Rattle.law_mailbox.proofs.connection.ReadSteps.{read_steps}
use Rattle.law_mailbox.proofs.read_steps_are_seen.Goals as goal

pub returns : goal.returns
returns c = read_steps
