use Rattle.std.proofs.Common.{◌≡◌, take, length}
use Rattle.step_differences.proofs.lists.same_left.Given as goal

abbrev pub invariant-loop-i : goal.invariant-loop-i
invariant-loop-i l = (length l.a ≡ length l.b) × (take l.i l.a ≡ take l.i l.b)
