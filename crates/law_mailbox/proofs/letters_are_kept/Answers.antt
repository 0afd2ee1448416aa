use Rattle.law_mailbox.proofs.queue_room.FindingRoom.{letters_kept}
use Rattle.law_mailbox.proofs.letters_are_kept.Goals as goal

pub returns : goal.returns
returns c = letters_kept c.letters_are_kept_where_work_finds_room.ensures c.work_finds_room.ensures
