use Rattle.law_mailbox.proofs.work.Sent.{sends_kept}
use Rattle.law_mailbox.proofs.sends_are_kept.Goals as goal

pub returns : goal.returns
returns c = sends_kept c.steps_are_named.ensures.events
