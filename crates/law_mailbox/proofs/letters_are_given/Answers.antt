use Rattle.law_mailbox.proofs.settling.Taking.{given}
use Rattle.law_mailbox.proofs.letters_are_given.Goals as goal

pub returns : goal.returns
returns c = given
