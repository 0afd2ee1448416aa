use Rattle.device_differences.specs.Differing.{apart}
use Rattle.device_differences.proofs.Found.{Passed}
use Rattle.device_differences.proofs.between.numbers.Given as goal

abbrev pub invariant-loop-i : goal.invariant-loop-i
invariant-loop-i l = Passed apart l.a l.b l.i
