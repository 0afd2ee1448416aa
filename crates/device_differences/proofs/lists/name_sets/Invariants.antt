use Rattle.device_differences.specs.Differing.{between}
use Rattle.device_differences.proofs.Found.{Passed}
use Rattle.device_differences.proofs.lists.name_sets.Given as goal

abbrev pub invariant-loop-i : goal.invariant-loop-i
invariant-loop-i l = Passed between l.a.keys l.b.keys l.i
