-- The first end whose partner moves.
use Rattle.std.proofs.Common.{◌∙◌, sym, arith}
use Rattle.protocol.specs.State.{context_at}
use Rattle.protocol.specs.WorldStep.{partner_moves}
use Rattle.world_core.proofs.Places.{some-end}
use Rattle.world_core.proofs.Views.{seen_moves, seen_stays}
use Rattle.world_core.proofs.world.World.some_partner_moves.Goals as goal

pub returns-then-partner_moves : goal.returns-then-partner_moves
returns-then-partner_moves c =
    sym (c.loop-i.invariant ∙ seen_moves c.args.self.now (context_at c.args.home.now c.args.context) c.loop-i.i c.unwrap-end.result (sym c.unwrap-end.ensures ∙ c.end_at.ensures) (sym c.partner_moves.ensures ∙ c.if-partner_moves.true))

pub loop-i-preserved : goal.loop-i-preserved
loop-i-preserved c =
    c.loop-i.invariant ∙ seen_stays c.args.self.now (context_at c.args.home.now c.args.context) c.loop-i.i c.unwrap-end.result (sym c.unwrap-end.ensures ∙ c.end_at.ensures) (sym c.partner_moves.ensures ∙ c.if-partner_moves.false)

pub returns : goal.returns
returns c =
    let ends = (context_at c.args.home.now c.args.context).ends in
    sym (c.loop-i.invariant ∙ some-end (λ e. partner_moves c.args.self.now e.link) ends c.loop-i.i (omega arith))
