use Rattle.std.proofs.Common.{arith}
use Rattle.serve_engine.proofs.Turning.{arrivals_begin, arrivals_end, arrivals_next}
use Rattle.serve_engine.proofs.state.Server.arrive_many.Goals as goal

pub loop-init : goal.loop-init
loop-init c = (arrivals_begin c.args.self.now, omega arith)

pub loop-preserved : goal.loop-preserved
loop-preserved c = (arrivals_next c.loop.counter c.args.self.now c.loop.self c.arrive_next.new.self c.in_ok-arrive_next.ensures c.loop.invariant.0, omega (arith, c.loop-test.true))

pub returns : goal.returns
returns c = arrivals_end c.loop.counter 64 c.args.self.now c.loop.self c.loop.invariant.0 (omega (arith, c.loop-test.false, c.loop.invariant.1))
