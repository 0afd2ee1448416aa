use Rattle.std.proofs.Common.{◌+◌, drop, arith}
use Rattle.node_rules.proofs.Joining.{comes_nowhere, comes_on}
use Rattle.node_rules.specs.Serve.{expiring}
use Rattle.node_engine.specs.Names.{names_of}
use Rattle.node_engine.proofs.Parts.{fails_as, fails_on}
use Rattle.node_engine.proofs.Steps.{all_expired, expiring_fails, expiring_next}
use Rattle.node_engine.proofs.state.Node.expire_all.Goals as goal

pub loop-end-init : goal.loop-end-init
loop-end-init g c = comes_nowhere (expiring c.args.now (names_of c.args.live.now) c.args.self.now) _

pub loop-end-preserved : goal.loop-end-preserved
loop-end-preserved g c =
    comes_on (expiring c.args.now (names_of c.args.live.now) c.args.self.now) (expiring c.args.now (names_of (drop c.loop-end.end-index c.args.live.now)) c.loop-end.self) (expiring c.args.now (names_of (drop (c.loop-end.end-index + 1) c.args.live.now)) c.expire.new.self) _ _ _ c.loop-end.invariant
    (expiring_next c.args.now c.args.live.now c.loop-end.end-index c.end-item.result c.loop-end.self c.expire.new.self _ _ c.loop-end-test.true c.end-item.is c.in_ok-expire.ensures)

pub returns-in_err-expire : goal.returns-in_err-expire
returns-in_err-expire g c =
    fails_as (expiring c.args.now (names_of c.args.live.now) c.args.self.now) _ c.in_err-expire.field-0.0 _ _ c.from_residual.result c.from_residual.ensures.1
    (fails_on (expiring c.args.now (names_of c.args.live.now) c.args.self.now) (expiring c.args.now (names_of (drop c.loop-end.end-index c.args.live.now)) c.loop-end.self) c.in_err-expire.field-0.0 _ _ _ c.loop-end.invariant (expiring_fails c.args.now c.args.live.now c.loop-end.end-index c.end-item.result c.loop-end.self c.in_err-expire.field-0.0 _ _ c.loop-end-test.true c.end-item.is c.in_err-expire.ensures))

pub returns : goal.returns
returns g c = all_expired c.args.now c.args.live.now c.loop-end.end-index c.args.self.now c.loop-end.self _ _ (omega (arith, c.loop-end-test.false)) c.loop-end.invariant
