use Rattle.law_mailbox.proofs.settling.Reaching.{here_after_settling}
use Rattle.law_mailbox.proofs.letters_are_here_after_settling.Goals as goal

pub returns : goal.returns
returns c = here_after_settling c.all_is_posted.ensures c.work_stops_in_time.ensures c.finished_work_delivers_all.ensures
