use Rattle.std.proofs.Common.{◌≡◌, take}
use Rattle.step_differences.proofs.copies.copy_ends.Given as goal

abbrev pub invariant-loop-e : goal.invariant-loop-e
invariant-loop-e l = l.copies.items ≡ take l.e-index l.ends
