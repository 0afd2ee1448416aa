use Rattle.mailbox_rules.specs.Command.{moves_after}
use Rattle.mailbox.specs.Runs.{IsRun}
use Rattle.mailbox.proofs.mail.Mailbox.move_after.Given as goal

abbrev pub invariant-loop-k : goal.invariant-loop-k
invariant-loop-k g l = IsRun l.fn.self l.self 0 0 (λ m. moves_after l.plan l.j l.k)
