use Rattle.std.proofs.Common.{◌*◌, ◌≤◌}
use Rattle.mailbox_rules.specs.Command.{all_taking_calls}
use Rattle.mailbox.specs.Runs.{IsRun}
use Rattle.mailbox.proofs.mail.Mailbox.take_letters.Given as goal

abbrev pub invariant-loop-i : goal.invariant-loop-i
invariant-loop-i l = record { run : IsRun l.fn.self l.self 0 l.taken (all_taking_calls l.plan.letters 1 l.i); few : l.taken ≤ 501 * l.i }
