use Rattle.std.proofs.Common.{◌-◌, ◌≤◌}
use Rattle.page_pool.specs.Held.{payload_bytes}
use Rattle.device_differences.specs.Differing.{apart}
use Rattle.device_differences.proofs.Found.{Passed}
use Rattle.device_differences.proofs.memory.payloads.Given as goal

abbrev pub invariant-loop-done : goal.invariant-loop-done
invariant-loop-done l = record { passed : Passed apart (payload_bytes l.pool l.payload) (payload_bytes l.other_pool l.other) l.done; inside : l.done ≤ l.count }

abbrev pub decreases-loop-done : goal.decreases-loop-done
decreases-loop-done l = l.count - l.done
