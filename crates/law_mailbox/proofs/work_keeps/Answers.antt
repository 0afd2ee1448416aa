use Rattle.law_mailbox.proofs.work.WorkSteps as steps
use Rattle.law_mailbox.proofs.work_keeps.Goals as goal

pub returns : goal.returns
returns c = steps.work_keeps
