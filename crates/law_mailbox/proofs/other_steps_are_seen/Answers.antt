use Rattle.law_mailbox.proofs.connection.OtherSteps.{other_steps}
use Rattle.law_mailbox.proofs.other_steps_are_seen.Goals as goal

pub returns : goal.returns
returns c = other_steps
