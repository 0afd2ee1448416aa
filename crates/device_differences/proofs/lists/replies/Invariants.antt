use Rattle.device_differences.specs.Differences.{reply_difference}
use Rattle.device_differences.proofs.Found.{Passed}
use Rattle.device_differences.proofs.lists.replies.Given as goal

abbrev pub invariant-loop-i : goal.invariant-loop-i
invariant-loop-i l = Passed reply_difference l.a l.b l.i
