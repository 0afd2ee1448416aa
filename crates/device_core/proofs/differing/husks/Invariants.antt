use Rattle.std.specs.Prelude.{map}
use Rattle.device_differences.specs.Differences.{husk_difference}
use Rattle.device_core.specs.Parts.{husk_in}
use Rattle.device_differences.proofs.Found.{Passed}
use Rattle.device_core.proofs.differing.husks.Given as goal

abbrev pub invariant-loop-i : goal.invariant-loop-i
invariant-loop-i l = Passed husk_difference (map husk_in l.a.entries) (map husk_in l.b.entries) l.i
