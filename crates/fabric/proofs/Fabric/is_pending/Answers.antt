use Rattle.std.proofs.Common.{◌≡◌, ◌∙◌, ap, Some, None}
use Rattle.protocol.specs.Fabric.{kept_flight}
use Rattle.fabric.specs.Store.{is_open}
use Rattle.fabric.proofs.Fabric.is_pending.Goals as goal

pub returns-in-None : goal.returns-in-None
returns-in-None c =
    let none : None ≡ kept_flight c.args.self.now c.args.k = c.in-None.ensures in
    ap is_open none

pub returns-in-Some : goal.returns-in-Some
returns-in-Some c =
    let found : Some c.in-Some.flight.now ≡ kept_flight c.args.self.now c.args.k = c.in-Some.ensures in
    c.is_open.ensures ∙ ap is_open found
