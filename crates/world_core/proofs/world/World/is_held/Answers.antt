-- The device at the place.
use Rattle.std.proofs.Common.{◌∙◌, ap}
use Rattle.protocol.specs.State.{Device, context_at}
use Rattle.protocol.specs.WorldStep.{partner_moves}
use Rattle.rdma_types.specs.Lists.{some}
use Rattle.world_core.proofs.Worlds.{read_device}
use Rattle.world_core.proofs.world.World.is_held.Goals as goal

pub returns : goal.returns
returns c = λ d h.
    c.some_partner_moves.ensures ∙ ap (λ (x : Device). some (λ e. partner_moves c.args.self.now e.link) (context_at x c.args.context).ends)
    (read_device _ c.args.self.now c.args.place c.index.result.now d c.self.view_is h c.index.ensures)
