-- The datagram that the store keeps.
use Rattle.std.proofs.Common.{◌∙◌, ap}
use Rattle.protocol.specs.Fabric.{kept_flight}
use Rattle.protocol.specs.State.{World}
use Rattle.world_core.proofs.world.World.flight.Goals as goal

pub returns : goal.returns
returns c = c.kept.ensures ∙ ap (λ (w : World). kept_flight w.sent c.args.k) c.self.view_is
