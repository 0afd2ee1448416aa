use Rattle.std.proofs.Common.{arith, rules}
use Rattle.packetless_machine.specs.Verbs.{is_used_by}
use Rattle.packetless_machine.proofs.Places.{any_here, any_later, any_none}
use Rattle.packetless_machine.proofs.machine.PacketlessMachine.some_use.Goals as goal

pub returns-then-is_used_by : goal.returns-then-is_used_by
returns-then-is_used_by c = any_here (is_used_by c.args.self.now c.args.region.now) c.args.ends.now c.loop-end.end-index c.end-item.result (omega arith) c.end-item.is (search rules) c.loop-end.invariant

pub returns : goal.returns
returns c = any_none (is_used_by c.args.self.now c.args.region.now) c.args.ends.now c.loop-end.end-index (omega arith) c.loop-end.invariant

pub loop-end-preserved : goal.loop-end-preserved
loop-end-preserved c = any_later (is_used_by c.args.self.now c.args.region.now) c.args.ends.now c.loop-end.end-index c.end-item.result (omega arith) c.end-item.is (search rules) c.loop-end.invariant
