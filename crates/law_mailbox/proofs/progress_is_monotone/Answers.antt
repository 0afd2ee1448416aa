use Rattle.law_mailbox.proofs.settling.Ahead.{moves_are_ahead, works_go_ahead}
use Rattle.law_mailbox.proofs.progress_is_monotone.Goals as goal

pub returns-clause-moves : goal.returns-clause-moves
returns-clause-moves c = moves_are_ahead

pub returns-clause-work : goal.returns-clause-work
returns-clause-work c = works_go_ahead
