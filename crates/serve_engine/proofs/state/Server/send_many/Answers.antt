use Rattle.std.proofs.Common.{arith}
use Rattle.serve_engine.proofs.Turning.{sends_begin, sends_end, sends_next}
use Rattle.serve_engine.proofs.state.Server.send_many.Goals as goal

pub loop-init : goal.loop-init
loop-init c = (sends_begin c.args.self.now, omega arith)

pub loop-preserved : goal.loop-preserved
loop-preserved c = (sends_next c.loop.counter c.args.self.now c.loop.self c.send_next.new.self c.in_ok-send_next.ensures c.loop.invariant.0, omega (arith, c.loop-test.true))

pub returns : goal.returns
returns c = sends_end c.loop.counter 64 c.args.self.now c.loop.self c.loop.invariant.0 (omega (arith, c.loop-test.false, c.loop.invariant.1))
