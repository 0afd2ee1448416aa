use Rattle.law_mailbox.proofs.flags.Example.{one_is_delivered, one_is_seen_calm}
use Rattle.law_mailbox.proofs.one_letter_is_delivered.Goals as goal

pub returns-clause-calm : goal.returns-clause-calm
returns-clause-calm c = one_is_seen_calm

pub returns-clause-delivered : goal.returns-clause-delivered
returns-clause-delivered c = one_is_delivered c.all_is_delivered.ensures
