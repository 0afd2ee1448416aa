-- The index tells.
use Rattle.std.proofs.Common.{◌∙◌, ap}
use Rattle.std.specs.List.{position}
use Rattle.protocol.specs.Refusals.{has_context}
use Rattle.protocol.specs.State.{World}
use Rattle.world_core.proofs.world.World.home_of.Goals as goal

pub returns : goal.returns
returns c = c.copied.ensures ∙ (c.get.ensures.value ∙ (c.self.invariant.indexed.homes c.args.name ∙ ap (λ (w : World). position (λ d. has_context d c.args.name) w.devices) c.self.view_is))
