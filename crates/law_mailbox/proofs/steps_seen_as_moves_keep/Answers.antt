use Rattle.law_mailbox.proofs.connection.Seen.{seen_steps_keep}
use Rattle.law_mailbox.proofs.steps_seen_as_moves_keep.Goals as goal

pub returns : goal.returns
returns c = seen_steps_keep
