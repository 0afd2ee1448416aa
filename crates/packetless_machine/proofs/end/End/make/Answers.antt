use Rattle.std.proofs.Common.{arith}
use Rattle.packetless_machine.proofs.Marks.{mark_at_start}
use Rattle.packetless_machine.proofs.Passing.{passed_at_start}
use Rattle.packetless_machine.proofs.end.End.make.Goals as goal

pub invariant_of-result : goal.invariant_of-result
invariant_of-result c = record { expiries = omega arith; receives = omega arith; mark = mark_at_start _ _; passed = passed_at_start _ _ }
