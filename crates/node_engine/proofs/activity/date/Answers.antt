use Rattle.std.proofs.Common.{◌∙◌, refl, arith}
use Rattle.node_engine.proofs.Ends.{all_dated, dated_on}
use Rattle.node_engine.proofs.activity.date.Goals as goal

pub loop-number-init : goal.loop-number-init
loop-number-init c = refl

pub loop-number-preserved : goal.loop-number-preserved
loop-number-preserved c = dated_on c.args.now c.args.active.now c.loop-number.number-index _ c.loop-number.moments.entries c.insert.new.self.entries c.loop-number-test.true refl c.in_ok-insert.ensures.entries ∙ c.loop-number.invariant

pub returns : goal.returns
returns c = all_dated c.args.now c.args.active.now c.loop-number.number-index c.args.moments.now.entries c.loop-number.moments.entries (omega (arith, c.loop-number-test.false)) c.loop-number.invariant
