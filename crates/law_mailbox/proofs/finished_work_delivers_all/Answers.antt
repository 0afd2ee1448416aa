use Rattle.law_mailbox.proofs.settling.Finishing.{finished_work_delivers}
use Rattle.law_mailbox.proofs.finished_work_delivers_all.Goals as goal

pub returns : goal.returns
returns c = finished_work_delivers c.settling_is_named.ensures.events c.events_follow.ensures c.steps_are_named.ensures.events c.stopped_work_is_over.ensures
