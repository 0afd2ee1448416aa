use Rattle.device_differences.specs.Differences.{completion_difference}
use Rattle.device_differences.proofs.Found.{Passed}
use Rattle.device_differences.proofs.lists.entries.Given as goal

abbrev pub invariant-loop-i : goal.invariant-loop-i
invariant-loop-i l = Passed completion_difference l.a.entries l.b.entries l.i
