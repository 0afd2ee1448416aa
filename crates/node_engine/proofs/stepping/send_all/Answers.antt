use Rattle.std.proofs.Common.{◌+◌, drop, arith}
use Rattle.node_rules.specs.Node.{sending}
use Rattle.node_rules.proofs.Joining.{comes_nowhere, comes_on}
use Rattle.node_engine.proofs.Parts.{fails_as, fails_on}
use Rattle.node_engine.proofs.Steps.{all_sent, sending_fails, sending_next}
use Rattle.node_engine.proofs.stepping.send_all.Goals as goal

pub loop-datagram-init : goal.loop-datagram-init
loop-datagram-init g c = comes_nowhere {A = Unit {0}} (λ more. sending c.args.sent.now (more tt)) (g.P.Ports.contents c.args.ports.now)

pub loop-datagram-preserved : goal.loop-datagram-preserved
loop-datagram-preserved g c =
    comes_on {A = Unit {0}} (λ more. sending c.args.sent.now (more tt)) (λ more. sending (drop c.loop-datagram.datagram-index c.args.sent.now) (more tt)) (λ more. sending (drop (c.loop-datagram.datagram-index + 1) c.args.sent.now) (more tt)) _ _ _
    c.loop-datagram.invariant
    (sending_next c.args.sent.now c.loop-datagram.datagram-index c.datagram-item.result c.as_slice.result.now _ _ c.loop-datagram-test.true c.datagram-item.is c.as_slice.ensures c.in_ok-send.ensures)

pub returns-in_err-send : goal.returns-in_err-send
returns-in_err-send g c =
    fails_as {A = Unit {0}} (λ more. sending c.args.sent.now (more tt)) _ c.in_err-send.field-0.0 _ _ c.from_residual.result c.from_residual.ensures.1
    (fails_on {A = Unit {0}} (λ more. sending c.args.sent.now (more tt)) (λ more. sending (drop c.loop-datagram.datagram-index c.args.sent.now) (more tt)) c.in_err-send.field-0.0 _ _ _
    c.loop-datagram.invariant
    (sending_fails c.args.sent.now c.loop-datagram.datagram-index c.datagram-item.result c.as_slice.result.now c.in_err-send.field-0.0 _ _ c.loop-datagram-test.true c.datagram-item.is c.as_slice.ensures c.in_err-send.ensures))

pub returns : goal.returns
returns g c = all_sent c.args.sent.now c.loop-datagram.datagram-index _ _ (omega (arith, c.loop-datagram-test.false)) c.loop-datagram.invariant
