-- The index tells.
use Rattle.std.proofs.Common.{◌∙◌, ◌==◌, ap}
use Rattle.std.specs.List.{position}
use Rattle.protocol.specs.State.{World}
use Rattle.world_core.proofs.world.World.place_of.Goals as goal

pub returns : goal.returns
returns c = c.copied.ensures ∙ (c.get.ensures.value ∙ (c.self.invariant.indexed.ids c.args.id ∙ ap (λ (w : World). position (λ d. d.id == c.args.id) w.devices) c.self.view_is))
