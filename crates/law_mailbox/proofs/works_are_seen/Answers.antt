use Rattle.law_mailbox.proofs.work.PollChains.{works_seen}
use Rattle.law_mailbox.proofs.works_are_seen.Goals as goal

pub returns : goal.returns
returns c = works_seen c.steps_are_named.ensures.events
