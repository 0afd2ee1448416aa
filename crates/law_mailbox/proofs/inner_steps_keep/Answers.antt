use Rattle.law_mailbox.proofs.connection.AllSteps.{all_keep, all_seen}
use Rattle.law_mailbox.proofs.inner_steps_keep.Goals as goal

pub returns-clause-seen : goal.returns-clause-seen
returns-clause-seen c = all_seen

pub returns-clause-kept : goal.returns-clause-kept
returns-clause-kept c = all_keep
