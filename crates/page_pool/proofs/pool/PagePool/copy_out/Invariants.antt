use Rattle.std.proofs.Common.{◌≡◌, ◌≤◌, ◌-◌}
use Rattle.rdma_types.specs.Memory.{cut}
use Rattle.page_pool.specs.Pool.{bytes_in}
use Rattle.page_pool.proofs.pool.PagePool.copy_out.Given as goal

abbrev pub invariant-loop-done : goal.invariant-loop-done
invariant-loop-done l = (l.done ≤ l.count) × (l.run ≡ cut l.first l.done (bytes_in l.self l.list))

abbrev pub decreases-loop-done : goal.decreases-loop-done
decreases-loop-done l = l.count - l.done
