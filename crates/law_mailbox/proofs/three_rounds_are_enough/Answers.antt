use Rattle.law_mailbox.proofs.settling.Rounds.{three_rounds}
use Rattle.law_mailbox.proofs.three_rounds_are_enough.Goals as goal

pub returns : goal.returns
returns c = three_rounds
