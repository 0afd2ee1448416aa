-- A device has the id where the index has a place for it.
use Rattle.std.proofs.Common.{◌∙◌, ap, is_some}
use Rattle.world_core.proofs.Worlds.{device_there}
use Rattle.world_core.proofs.world.World.has_device.Goals as goal

pub returns : goal.returns
returns c = c.is_some.ensures ∙ (ap (λ o. is_some o) c.place_of.ensures ∙ device_there c.args.self.now c.args.id)
