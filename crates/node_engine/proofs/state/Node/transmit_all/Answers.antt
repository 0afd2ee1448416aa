use Rattle.std.proofs.Common.{◌+◌, drop, arith}
use Rattle.node_rules.proofs.Joining.{comes_nowhere, comes_on}
use Rattle.node_rules.specs.Serve.{transmitting}
use Rattle.node_engine.specs.Names.{names_of}
use Rattle.node_engine.proofs.Parts.{fails_as, fails_on}
use Rattle.node_engine.proofs.Steps.{all_transmitted, transmitting_fails, transmitting_next}
use Rattle.node_engine.proofs.state.Node.transmit_all.Goals as goal

pub loop-end-init : goal.loop-end-init
loop-end-init g c = comes_nowhere (transmitting (names_of c.args.live.now) c.args.self.now) _

pub loop-end-preserved : goal.loop-end-preserved
loop-end-preserved g c =
    comes_on (transmitting (names_of c.args.live.now) c.args.self.now) (transmitting (names_of (drop c.loop-end.end-index c.args.live.now)) c.loop-end.self) (transmitting (names_of (drop (c.loop-end.end-index + 1) c.args.live.now)) c.transmit.new.self) _ _ _ c.loop-end.invariant
    (transmitting_next c.args.live.now c.loop-end.end-index c.end-item.result c.loop-end.self c.transmit.new.self _ _ c.loop-end-test.true c.end-item.is c.in_ok-transmit.ensures)

pub returns-in_err-transmit : goal.returns-in_err-transmit
returns-in_err-transmit g c =
    fails_as (transmitting (names_of c.args.live.now) c.args.self.now) _ c.in_err-transmit.field-0.0 _ _ c.from_residual.result c.from_residual.ensures.1
    (fails_on (transmitting (names_of c.args.live.now) c.args.self.now) (transmitting (names_of (drop c.loop-end.end-index c.args.live.now)) c.loop-end.self) c.in_err-transmit.field-0.0 _ _ _ c.loop-end.invariant (transmitting_fails c.args.live.now c.loop-end.end-index c.end-item.result c.loop-end.self c.in_err-transmit.field-0.0 _ _ c.loop-end-test.true c.end-item.is c.in_err-transmit.ensures))

pub returns : goal.returns
returns g c = all_transmitted c.args.live.now c.loop-end.end-index c.args.self.now c.loop-end.self _ _ (omega (arith, c.loop-end-test.false)) c.loop-end.invariant
