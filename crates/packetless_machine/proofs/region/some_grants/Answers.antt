use Rattle.std.proofs.Common.{arith, rules}
use Rattle.rdma_types.specs.Memory.{grants}
use Rattle.packetless_machine.specs.Keyed.{key_by, right_of}
use Rattle.packetless_machine.proofs.Places.{any_here, any_later, any_none}
use Rattle.packetless_machine.proofs.region.some_grants.Goals as goal

pub returns-then-grants : goal.returns-then-grants
returns-then-grants c = any_here (grants (key_by c.args.place.now.kind) c.args.domain c.args.place.now.key c.args.place.now.address c.args.place.now.count (right_of c.args.need)) c.args.regions.now c.loop-region.region-index c.region-item.result (omega arith) c.region-item.is (search rules) c.loop-region.invariant

pub returns : goal.returns
returns c = any_none (grants (key_by c.args.place.now.kind) c.args.domain c.args.place.now.key c.args.place.now.address c.args.place.now.count (right_of c.args.need)) c.args.regions.now c.loop-region.region-index (omega arith) c.loop-region.invariant

pub loop-region-preserved : goal.loop-region-preserved
loop-region-preserved c = any_later (grants (key_by c.args.place.now.kind) c.args.domain c.args.place.now.key c.args.place.now.address c.args.place.now.count (right_of c.args.need)) c.args.regions.now c.loop-region.region-index c.region-item.result (omega arith) c.region-item.is (search rules) c.loop-region.invariant
