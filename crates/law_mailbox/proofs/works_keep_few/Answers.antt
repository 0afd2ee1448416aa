use Rattle.law_mailbox.proofs.queue_room.FewWorks.{works_few}
use Rattle.law_mailbox.proofs.works_keep_few.Goals as goal

pub returns : goal.returns
returns c = works_few c.steps_are_named.ensures.events
