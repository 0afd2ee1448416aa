use Rattle.std.proofs.Common.{arith}
use Rattle.packetless_machine.proofs.Marks.{mark_at_start}
use Rattle.packetless_machine.proofs.end.End.join.Goals as goal

pub invariant_of-self : goal.invariant_of-self
invariant_of-self c = record { expiries = omega arith; receives = omega arith; mark = mark_at_start _ _; passed = c.self.invariant.passed }
