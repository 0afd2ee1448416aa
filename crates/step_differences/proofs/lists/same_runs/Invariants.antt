use Rattle.std.proofs.Common.{◌≡◌, ◌-◌, ◌≤◌, take, length}
use Rattle.step_differences.proofs.lists.same_runs.Given as goal

abbrev pub invariant-loop-done : goal.invariant-loop-done
invariant-loop-done l = (length l.a ≡ length l.b) × (l.done ≤ length l.a) × (take l.done l.a ≡ take l.done l.b)

abbrev pub decreases-loop-done : goal.decreases-loop-done
decreases-loop-done l = length l.a - l.done
