use Rattle.law_mailbox.proofs.queue_room.FewRoom.{few_room}
use Rattle.law_mailbox.proofs.few_have_room.Goals as goal

pub returns : goal.returns
returns c = few_room
