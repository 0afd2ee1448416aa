use Rattle.law_mailbox.proofs.work.Staged.{stores_kept}
use Rattle.law_mailbox.proofs.stores_are_kept.Goals as goal

pub returns : goal.returns
returns c = stores_kept c.steps_are_named.ensures.events
