use Rattle.law_mailbox.proofs.queue_room.RoomSteps as room
use Rattle.law_mailbox.proofs.steps_add_no_load.Goals as goal

pub returns : goal.returns
returns c = room.steps_add_no_load
