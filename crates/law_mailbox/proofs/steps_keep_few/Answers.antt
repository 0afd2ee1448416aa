use Rattle.law_mailbox.proofs.queue_room.FewSteps as few
use Rattle.law_mailbox.proofs.steps_keep_few.Goals as goal

pub returns : goal.returns
returns c = few.steps_keep_few
