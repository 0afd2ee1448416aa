use Rattle.device_differences.specs.Differences.{posted_difference}
use Rattle.end_queues.specs.Untold.{posted_in}
use Rattle.std.specs.Prelude.{map}
use Rattle.device_differences.proofs.Found.{Passed}
use Rattle.device_differences.proofs.requests.requests.Given as goal

abbrev pub invariant-loop-i : goal.invariant-loop-i
invariant-loop-i l = Passed posted_difference (map (posted_in l.pool) l.a.items) (map (posted_in l.other_pool) l.b.items) l.i
