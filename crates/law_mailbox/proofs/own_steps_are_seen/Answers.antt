use Rattle.law_mailbox.proofs.connection.OwnSteps.{own_steps}
use Rattle.law_mailbox.proofs.own_steps_are_seen.Goals as goal

pub returns : goal.returns
returns c = own_steps
