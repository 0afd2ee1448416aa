use Rattle.law_mailbox.proofs.settling.Afterwards.{answered_after_work}
use Rattle.law_mailbox.proofs.sends_are_answered_after_work.Goals as goal

pub returns : goal.returns
returns c = answered_after_work c.steps_are_named.ensures.events c.sends_are_answered.ensures c.stopped_work_is_over.ensures
