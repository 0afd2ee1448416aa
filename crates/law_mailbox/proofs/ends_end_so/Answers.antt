use Rattle.law_mailbox.proofs.flags.Ending.{end_so}
use Rattle.law_mailbox.proofs.flags.Unrefused.{none_refused}
use Rattle.law_mailbox.proofs.ends_end_so.Goals as goal

pub returns-clause-unrefused : goal.returns-clause-unrefused
returns-clause-unrefused c = none_refused

pub returns-clause-ends : goal.returns-clause-ends
returns-clause-ends c = end_so none_refused
