use Rattle.law_mailbox.proofs.work.Held.{enough}
use Rattle.law_mailbox.specs.Ready.{IsReadyMail}
use Rattle.law_mailbox.proofs.keeping_is_enough.Goals as goal

pub returns : goal.returns
returns c = enough IsReadyMail c.settling_is_named.ensures.events c.events_follow.ensures
