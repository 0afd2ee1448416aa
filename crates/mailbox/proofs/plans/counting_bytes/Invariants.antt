use Rattle.std.proofs.Common.{◌≡◌, ◌+◌, ◌%◌}
use Rattle.mailbox_rules.specs.Command.{counting_bytes}
use Rattle.mailbox.proofs.plans.counting_bytes.Given as goal

abbrev pub invariant-loop-made : goal.invariant-loop-made
invariant-loop-made l = record { bytes : l.bytes.items ≡ counting_bytes l.from l._made; next : l.next ≡ (l.from + l._made) % 256 }
