use Rattle.law_mailbox.proofs.work.Posted.{moves_keep_posted, work_keeps_posted}
use Rattle.law_mailbox.proofs.all_stays_posted.Goals as goal

pub returns-clause-moves : goal.returns-clause-moves
returns-clause-moves c = moves_keep_posted

pub returns-clause-work : goal.returns-clause-work
returns-clause-work c = work_keeps_posted
