-- So far no partner moves.
use Rattle.std.proofs.Common.{◌≡◌, drop}
use Rattle.protocol.specs.State.{context_at}
use Rattle.protocol.specs.WorldStep.{partner_moves}
use Rattle.rdma_types.specs.Lists.{some}
use Rattle.world_core.proofs.world.World.some_partner_moves.Given as goal

abbrev pub invariant-loop-i : goal.invariant-loop-i
invariant-loop-i l = some (λ e. partner_moves l.self e.link) (context_at l.home l.context).ends ≡ some (λ e. partner_moves l.self e.link) (drop l.i (context_at l.home l.context).ends)
