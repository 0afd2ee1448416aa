use Rattle.std.proofs.Common.{arith, rules}
use Rattle.packetless_machine.specs.Machine.{is_at}
use Rattle.packetless_machine.specs.Keyed.{key_by}
use Rattle.packetless_machine.proofs.Places.{found_here, not_here, nowhere}
use Rattle.packetless_machine.proofs.region.place_at.Goals as goal

pub returns-then-is_at : goal.returns-then-is_at
returns-then-is_at c =
    found_here (is_at (key_by c.args.place.now.kind) c.args.place.now.key c.args.place.now.address c.args.place.now.count) c.args.regions.now c.loop-i.i c.index-regions-i.result (omega arith) c.index-regions-i.is (search rules) c.loop-i.invariant

pub returns : goal.returns
returns c =
    nowhere (is_at (key_by c.args.place.now.kind) c.args.place.now.key c.args.place.now.address c.args.place.now.count) c.args.regions.now c.loop-i.i (omega arith) (omega arith) c.loop-i.invariant

pub loop-i-preserved : goal.loop-i-preserved
loop-i-preserved c =
    not_here (is_at (key_by c.args.place.now.kind) c.args.place.now.key c.args.place.now.address c.args.place.now.count) c.args.regions.now c.loop-i.i c.index-regions-i.result (omega arith) c.index-regions-i.is (search rules) c.loop-i.invariant
