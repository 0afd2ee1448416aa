use Rattle.law_mailbox.proofs.connection.Steps as steps
use Rattle.law_mailbox.proofs.moves_keep.Goals as goal

pub returns : goal.returns
returns c = steps.moves_keep
