use Rattle.std.specs.Map.{values_of}
use Rattle.std.proofs.Common.{length}
use Rattle.memory_keys.proofs.Released.{IsLeft}
use Rattle.memory_keys.proofs.regions.Regions.release.Given as goal

abbrev pub invariant-loop-last : goal.invariant-loop-last
invariant-loop-last l = IsLeft l.initial.pool l.pool (values_of l.initial.held.entries) (values_of l.held.entries)

abbrev pub decreases-loop-last : goal.decreases-loop-last
decreases-loop-last l = length l.held.entries
