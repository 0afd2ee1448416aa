use Rattle.std.proofs.Common.{arith}
use Rattle.serve_engine.proofs.FromLink.{left_on}
use Rattle.serve_engine.proofs.state.Server.leave.Goals as goal

pub loop-preserved : goal.loop-preserved
loop-preserved g c = (left_on c.args.self.now c.loop.self c.leave_first.new.self c.loop.counter 1 c.loop.invariant.0 c.leave_first.ensures, omega (arith, c.loop-test.true))
