use Rattle.device_differences.specs.Differences.{region_difference}
use Rattle.memory_keys.specs.Regions.{regions_of}
use Rattle.device_differences.proofs.Found.{Passed}
use Rattle.device_differences.proofs.memory.regions.Given as goal

abbrev pub invariant-loop-i : goal.invariant-loop-i
invariant-loop-i l = Passed region_difference (regions_of l.pool l.a) (regions_of l.other_pool l.b) l.i
