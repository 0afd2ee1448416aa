use Rattle.std.specs.Prelude.{map}
use Rattle.device_differences.specs.Differences.{context_difference}
use Rattle.device_core.specs.Parts.{held_in}
use Rattle.device_differences.proofs.Found.{Passed}
use Rattle.device_core.proofs.differing.contexts.Given as goal

abbrev pub invariant-loop-i : goal.invariant-loop-i
invariant-loop-i l = Passed context_difference (map (held_in l.pool) l.a.entries) (map (held_in l.other_pool) l.b.entries) l.i
