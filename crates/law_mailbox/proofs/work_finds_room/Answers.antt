use Rattle.law_mailbox.proofs.queue_room.FindingRoom.{finds_room}
use Rattle.law_mailbox.proofs.work_finds_room.Goals as goal

pub returns : goal.returns
returns c = finds_room c.queue_entries_are_bounded.ensures c.works_keep_few.ensures c.few_have_room.ensures c.contexts_stay_furnished.ensures.works
