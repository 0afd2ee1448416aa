use Rattle.law_mailbox.proofs.settling.Opened.{were_sent}
use Rattle.law_mailbox.proofs.open_letters_were_sent.Goals as goal

pub returns : goal.returns
returns c = were_sent
