use Rattle.std.proofs.Common.{arith, rules}
use Rattle.rdma_types.specs.Kinds.{lands, kind_of}
use Rattle.packetless_machine.proofs.Places.{any_here, any_later, any_none}
use Rattle.packetless_machine.proofs.end.some_land.Goals as goal

pub returns-then-lands : goal.returns-then-lands
returns-then-lands c = any_here (λ r. lands (kind_of r)) c.args.requests.now c.loop-r.r-index c.r-item.result (omega arith) c.r-item.is (search rules) c.loop-r.invariant

pub returns : goal.returns
returns c = any_none (λ r. lands (kind_of r)) c.args.requests.now c.loop-r.r-index (omega arith) c.loop-r.invariant

pub loop-r-preserved : goal.loop-r-preserved
loop-r-preserved c = any_later (λ r. lands (kind_of r)) c.args.requests.now c.loop-r.r-index c.r-item.result (omega arith) c.r-item.is (search rules) c.loop-r.invariant
