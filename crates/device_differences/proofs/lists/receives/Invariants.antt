use Rattle.device_differences.specs.Differences.{receive_difference}
use Rattle.device_differences.proofs.Found.{Passed}
use Rattle.device_differences.proofs.lists.receives.Given as goal

abbrev pub invariant-loop-i : goal.invariant-loop-i
invariant-loop-i l = Passed receive_difference l.a.items l.b.items l.i
