use Rattle.law_mailbox.proofs.queue_room.LittleOwed.{due_work_bounded}
use Rattle.law_mailbox.proofs.due_work_is_bounded.Goals as goal

pub returns : goal.returns
returns c = due_work_bounded c.steps_are_named.ensures.events
