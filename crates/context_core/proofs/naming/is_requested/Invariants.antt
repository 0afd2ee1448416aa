use Rattle.std.proofs.Common.{◌≡◌, ◌==◌, false, take}
use Rattle.std.specs.Prelude.{◌&&◌, not}
use Rattle.rdma_types.specs.Lists.{some}
use Rattle.context_core.proofs.naming.is_requested.Given as goal

abbrev pub invariant-loop-place : goal.invariant-loop-place
invariant-loop-place l = some (λ p. p.request.lkey == l.key && not (p.request.shape.length == 0)) (take l.place l.requester.items) ≡ false
