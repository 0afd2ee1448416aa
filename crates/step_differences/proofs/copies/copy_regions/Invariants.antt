use Rattle.std.proofs.Common.{◌≡◌, take}
use Rattle.step_differences.proofs.copies.copy_regions.Given as goal

abbrev pub invariant-loop-r : goal.invariant-loop-r
invariant-loop-r l = l.copies.items ≡ take l.r-index l.regions
