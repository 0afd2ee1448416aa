use Rattle.law_mailbox.proofs.settling.Reaching.{letters_kept}
use Rattle.law_mailbox.proofs.letters_are_kept_where_work_finds_room.Goals as goal

pub returns : goal.returns
returns c = letters_kept c.letters_are_taken_whole.ensures c.letters_are_here_after_settling.ensures
