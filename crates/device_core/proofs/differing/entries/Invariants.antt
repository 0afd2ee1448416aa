use Rattle.std.specs.Prelude.{map}
use Rattle.device_differences.specs.Differences.{entry_difference}
use Rattle.device_core.specs.Parts.{entry_of}
use Rattle.device_differences.proofs.Found.{Passed}
use Rattle.device_core.proofs.differing.entries.Given as goal

abbrev pub invariant-loop-i : goal.invariant-loop-i
invariant-loop-i l = Passed entry_difference (map entry_of l.a) (map entry_of l.b) l.i
