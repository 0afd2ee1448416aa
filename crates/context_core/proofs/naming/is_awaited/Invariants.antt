use Rattle.std.proofs.Common.{◌≡◌, ◌==◌, false, take}
use Rattle.std.specs.Prelude.{◌&&◌, not}
use Rattle.rdma_types.specs.Lists.{some}
use Rattle.context_core.proofs.naming.is_awaited.Given as goal

abbrev pub invariant-loop-place : goal.invariant-loop-place
invariant-loop-place l = some (λ r. r.lkey == l.key && not (r.length == 0)) (take l.place l.recvs.items) ≡ false
