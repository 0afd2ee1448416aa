use Rattle.law_mailbox.proofs.settling.Over.{stopped_is_over}
use Rattle.law_mailbox.proofs.stopped_work_is_over.Goals as goal

pub returns : goal.returns
returns c = stopped_is_over c.steps_are_named.ensures.events
