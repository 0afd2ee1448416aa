use Rattle.law_mailbox.proofs.settling.Answering.{sends_answered}
use Rattle.law_mailbox.proofs.sends_are_answered.Goals as goal

pub returns : goal.returns
returns c = sends_answered c.steps_are_named.ensures.events
