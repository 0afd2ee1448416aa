use Rattle.std.proofs.Common.{rules, ◌≤◌, length}
use Rattle.packetless_machine.specs.Keyed.{key_by}
use Rattle.packetless_machine.proofs.Memory.{holds_there, bytes_at_there, bytes_at_nowhere}
use Rattle.packetless_machine.proofs.region.bytes_at.Goals as goal

pub read-requires : goal.read-requires
read-requires c =
    holds_there (key_by c.args.place.now.kind) c.args.place.now.key c.args.place.now.address c.args.place.now.count c.args.regions.now c.in-Some.region.now (rw (← c.place_at.ensures) (search rules)) (rw (← c.place_at.ensures) (search rules))

pub returns-in-Some-clause-bytes : goal.returns-in-Some-clause-bytes
returns-in-Some-clause-bytes c =
    rw (bytes_at_there (key_by c.args.place.now.kind) c.args.place.now.key c.args.place.now.address c.args.place.now.count c.args.regions.now c.in-Some.region.now (rw (← c.place_at.ensures) (search rules)) (rw (← c.place_at.ensures) (search rules))) c.read.ensures.bytes

pub returns-in-None-clause-bytes : goal.returns-in-None-clause-bytes
returns-in-None-clause-bytes c =
    let past : length c.args.regions.now ≤ c.place_at.result = search rules in
    rw (bytes_at_nowhere (key_by c.args.place.now.kind) c.args.place.now.key c.args.place.now.address c.args.place.now.count c.args.regions.now (rw (← c.place_at.ensures) past)) c.new.ensures.items
