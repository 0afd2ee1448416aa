use Rattle.law_mailbox.proofs.work.DueChains.{dues_seen}
use Rattle.law_mailbox.proofs.dues_are_seen.Goals as goal

pub returns : goal.returns
returns c = dues_seen c.steps_are_named.ensures.events
