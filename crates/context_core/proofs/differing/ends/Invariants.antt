use Rattle.std.specs.Prelude.{map}
use Rattle.device_differences.specs.Differences.{end_difference}
use Rattle.context_core.specs.Context.{end_of}
use Rattle.device_differences.proofs.Found.{Passed}
use Rattle.context_core.proofs.differing.ends.Given as goal

abbrev pub invariant-loop-i : goal.invariant-loop-i
invariant-loop-i l = Passed end_difference (map (end_of l.pool l.queues.entries) l.a.entries) (map (end_of l.other_pool l.other_queues.entries) l.b.entries) l.i
