use Rattle.mailbox_rules.specs.State as state
use Rattle.mailbox.specs.Steps.{Shows}
use Rattle.mailbox.proofs.Running.{IsTaking}
use Rattle.mailbox.proofs.mail.Mailbox.take_all.Given as goal

abbrev pub invariant-loop-k : goal.invariant-loop-k
invariant-loop-k l = (m : state.Mail) → Shows l.fn.self m → IsTaking l.self m l.from l.most l.k
