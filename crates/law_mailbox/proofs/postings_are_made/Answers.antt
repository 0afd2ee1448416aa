use Rattle.law_mailbox.proofs.work.Postings.{postings_made}
use Rattle.law_mailbox.proofs.postings_are_made.Goals as goal

pub returns : goal.returns
returns c = postings_made c.steps_are_named.ensures.events
