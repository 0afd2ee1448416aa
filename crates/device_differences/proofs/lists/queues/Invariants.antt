use Rattle.device_differences.specs.Differences.{queue_difference}
use Rattle.device_differences.specs.Shown.{shown_queue}
use Rattle.std.specs.Prelude.{map}
use Rattle.device_differences.proofs.Found.{Passed}
use Rattle.device_differences.proofs.lists.queues.Given as goal

abbrev pub invariant-loop-i : goal.invariant-loop-i
invariant-loop-i l = Passed queue_difference (map shown_queue l.a.entries) (map shown_queue l.b.entries) l.i
