-- The bytes of a kept datagram.
use Rattle.std.proofs.Common.{◌∙◌, sym, ap, rules}
use Rattle.protocol.specs.Fabric.{kept_flight}
use Rattle.protocol.specs.State.{World}
use Rattle.world_core.proofs.Networks.{wires_kept, wires_none}
use Rattle.world_core.proofs.world.World.wire.Goals as goal

pub returns-in_ok-bytes-in-Some : goal.returns-in_ok-bytes-in-Some
returns-in_ok-bytes-in-Some c =
    wires_kept c.args.self.now c.args.k c.in-Some.flight.now c.new.result c.requires.ready.kept
    (ap (λ (w : World). kept_flight w.sent c.args.k) (sym c.self.view_is) ∙ sym c.in-Some.ensures)
    (c.new.ensures ∙ (c.in_ok-bytes-in-Some.ensures.items ∙ search rules))

pub returns-in-None : goal.returns-in-None
returns-in-None c = wires_none c.args.self.now c.args.k c.requires.ready.kept (ap (λ (w : World). kept_flight w.sent c.args.k) (sym c.self.view_is) ∙ sym c.in-None.ensures)
