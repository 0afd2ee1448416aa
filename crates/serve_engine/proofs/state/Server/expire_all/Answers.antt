use Rattle.std.proofs.Common.{◌∙◌, refl, arith}
use Rattle.serve_engine.proofs.Turning.{expired_end, expired_on}
use Rattle.serve_engine.proofs.state.Server.expire_all.Goals as goal

pub loop-number-init : goal.loop-number-init
loop-number-init c = refl

pub loop-number-preserved : goal.loop-number-preserved
loop-number-preserved c = expired_on c.args.due.now c.loop-number.number-index _ c.loop-number.self c.expire_from.new.self c.loop-number-test.true refl c.in_ok-expire_from.ensures ∙ c.loop-number.invariant

pub returns : goal.returns
returns c = expired_end c.args.due.now c.loop-number.number-index c.args.self.now c.loop-number.self (omega (arith, c.loop-number-test.false)) c.loop-number.invariant
