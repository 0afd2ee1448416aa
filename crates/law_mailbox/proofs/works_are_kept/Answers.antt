use Rattle.law_mailbox.proofs.work.Worked.{works_kept}
use Rattle.law_mailbox.proofs.works_are_kept.Goals as goal

pub returns : goal.returns
returns c = works_kept c.steps_are_named.ensures.events
