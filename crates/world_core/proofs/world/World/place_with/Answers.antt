-- The index tells.
use Rattle.std.proofs.Common.{◌∙◌, ap}
use Rattle.std.specs.List.{position}
use Rattle.protocol.specs.State.{World}
use Rattle.protocol.specs.WorldStep.{same_address}
use Rattle.world_core.proofs.world.World.place_with.Goals as goal

pub returns : goal.returns
returns c = c.copied.ensures ∙ (c.get.ensures.value ∙ (c.self.invariant.indexed.ports (c.args.address.ip, c.args.address.port) ∙ ap (λ (w : World). position (λ d. same_address d.address c.args.address) w.devices) c.self.view_is))
