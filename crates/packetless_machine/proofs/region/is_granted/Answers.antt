use Rattle.std.proofs.Common.{rules}
use Rattle.packetless_machine.specs.Keyed.{key_by, right_of}
use Rattle.packetless_machine.proofs.Memory.{is_granted_by}
use Rattle.packetless_machine.proofs.region.is_granted.Goals as goal

pub returns-then-place-eq0 : goal.returns-then-place-eq0
returns-then-place-eq0 c = rw (is_granted_by (key_by c.args.place.now.kind) c.args.regions.now c.args.domain c.args.place.now.key c.args.place.now.address c.args.place.now.count (right_of c.args.need)) (search rules)

pub returns-else-place-eq0 : goal.returns-else-place-eq0
returns-else-place-eq0 c = rw (is_granted_by (key_by c.args.place.now.kind) c.args.regions.now c.args.domain c.args.place.now.key c.args.place.now.address c.args.place.now.count (right_of c.args.need)) (search rules)
