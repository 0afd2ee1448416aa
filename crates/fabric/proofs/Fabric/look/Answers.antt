use Rattle.std.proofs.Common.{◌≡◌, ◌∙◌, ap, Option, Some, None}
use Rattle.protocol.specs.State.{Flight}
use Rattle.protocol.specs.Fabric.{kept_flight, look, look_at}
use Rattle.fabric.proofs.Fabric.look.Goals as goal

pub returns-in-None : goal.returns-in-None
unfolding look
returns-in-None c =
    let none : None ≡ kept_flight c.args.self.now c.args.k = c.in-None.ensures in
    ap (λ (o : Option Flight). look_at o c.args.now) none

pub returns-in-Some : goal.returns-in-Some
unfolding look
returns-in-Some c =
    let found : Some c.in-Some.flight.now ≡ kept_flight c.args.self.now c.args.k = c.in-Some.ensures in
    c.look.ensures ∙ ap (λ (o : Option Flight). look_at o c.args.now) found
