use Rattle.std.proofs.Common.{◌-◌, ◌≤◌}
use Rattle.device_differences.specs.Differing.{apart}
use Rattle.device_differences.specs.Shown.{bytes_under}
use Rattle.device_differences.proofs.Found.{Passed}
use Rattle.device_differences.proofs.memory.region_bytes.Given as goal

abbrev pub invariant-loop-done : goal.invariant-loop-done
invariant-loop-done l = record { passed : Passed apart (bytes_under l.pool l.regions l.head.keys.local) (bytes_under l.other_pool l.other l.other_head.keys.local) l.done; inside : l.done ≤ l.count }

abbrev pub decreases-loop-done : goal.decreases-loop-done
decreases-loop-done l = l.count - l.done
