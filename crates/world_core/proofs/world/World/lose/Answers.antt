-- A datagram is lost where it is kept.
use Rattle.std.proofs.Common.{◌≡◌, ◌∙◌, sym, ap, inl, inr, is_some}
use Rattle.protocol.specs.Fabric.{kept_flight, losing}
use Rattle.protocol.specs.State.{World}
use Rattle.world_core.proofs.Networks.{loses_makes}
use Rattle.world_core.proofs.world.World.lose.Goals as goal
use Rattle.world_core.proofs.world.World.lose.Goals.{then-lose, else-lose}

pub returns : goal.returns
returns c =
    let known : c.lose.result ≡ is_some (kept_flight c.args.self.now.sent c.args.k) = c.lose.ensures.known ∙ ap (λ (w : World). is_some (kept_flight w.sent c.args.k)) c.self.view_is in
    loses_makes c.args.self.now _ c.args.k c.lose.new.self c.if-lose.result c.requires.ready.kept
    (ap (λ (w : World). record w { sent = c.lose.new.self }) c.self.view_is)
    (c.lose.ensures.lost ∙ ap (λ (w : World). losing w.sent c.args.k) c.self.view_is)
    (elim c.if-lose.branch [
      | then-lose w ↦ inl (sym known ∙ w.if-lose.true, w.result-is)
      | else-lose w ↦ inr (sym known ∙ w.if-lose.false, w.result-is)
    ])
