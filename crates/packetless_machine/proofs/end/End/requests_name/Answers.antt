use Rattle.std.proofs.Common.{arith, rules}
use Rattle.packetless_machine.specs.Verbs.{request_names}
use Rattle.packetless_machine.proofs.Places.{any_here, any_later, any_none}
use Rattle.packetless_machine.proofs.end.End.requests_name.Goals as goal

pub returns-then-names : goal.returns-then-names
returns-then-names c = rw (← c.untold-untold.ensures) (any_here (request_names c.args.key) c.untold-untold.result.now c.loop-r.r-index c.r-item.result (omega arith) c.r-item.is (search rules) c.loop-r.invariant)

pub returns : goal.returns
returns c = rw (← c.untold-untold.ensures) (any_none (request_names c.args.key) c.untold-untold.result.now c.loop-r.r-index (omega arith) c.loop-r.invariant)

pub loop-r-preserved : goal.loop-r-preserved
loop-r-preserved c = any_later (request_names c.args.key) c.untold-untold.result.now c.loop-r.r-index c.r-item.result (omega arith) c.r-item.is (search rules) c.loop-r.invariant
