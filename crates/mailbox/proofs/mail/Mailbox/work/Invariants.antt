use Rattle.std.proofs.Common.{◌≤◌}
use Rattle.mailbox_rules.specs.State as state
use Rattle.mailbox.specs.Steps.{Shows}
use Rattle.mailbox.proofs.Worked.{IsUnderWay}
use Rattle.mailbox.proofs.mail.Mailbox.work.Given as goal

abbrev pub invariant-loop-made : goal.invariant-loop-made
invariant-loop-made l = record { way : (m : state.Mail) → Shows l.fn.self m → IsUnderWay l.self m l.next l._made; next : l.next ≤ 9 }
