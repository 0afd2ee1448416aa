use Rattle.std.proofs.Common.{◌≡◌, ◌≤◌, ◌-◌, length, take}
use Rattle.std.specs.Prelude.{Some}
use Rattle.rdma_types.specs.Memory.{put}
use Rattle.page_pool.specs.Pool.{Puts, bytes_in, free_pages}
use Rattle.page_pool.proofs.pool.PagePool.write.Given as goal

abbrev pub invariant-loop-done : goal.invariant-loop-done
invariant-loop-done l = (l.done ≤ length l.bytes) × Puts l.initial.self l.self l.list (Some (put (bytes_in l.initial.self l.list) l.at (take l.done l.bytes))) × (free_pages l.self ≡ free_pages l.initial.self)

abbrev pub decreases-loop-done : goal.decreases-loop-done
decreases-loop-done l = length l.bytes - l.done
