use Rattle.std.proofs.Common.{◌≡◌, ◌+◌, length}
use Rattle.protocol.specs.Dumps.{dump_bytes}
use Rattle.dump_writer.specs.Left.{left}
use Rattle.dump_writer.proofs.length.dump_length.Given as goal

-- the bytes so far and those that are left are all
abbrev pub invariant-loop-skipped : goal.invariant-loop-skipped
invariant-loop-skipped l = l.total + length (left l.image l.next) ≡ length (dump_bytes 2 l.image)

abbrev pub decreases-loop-skipped : goal.decreases-loop-skipped
decreases-loop-skipped l = length (left l.image l.next)
