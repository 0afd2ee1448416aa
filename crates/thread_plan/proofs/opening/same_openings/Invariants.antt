use Rattle.std.proofs.Common.{◌≡◌, length}
use Rattle.thread_plan.proofs.SameBooks.{AreSame}
use Rattle.thread_plan.proofs.opening.same_openings.Given as goal

abbrev pub invariant-loop-i : goal.invariant-loop-i
invariant-loop-i l = (length l.a ≡ length l.b) × AreSame l.i l.a l.b
