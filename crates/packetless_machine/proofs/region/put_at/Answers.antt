use Rattle.std.proofs.Common.{rules, ◌≡◌, ◌≤◌, sym, length, refl}
use Rattle.packetless_machine.specs.Tables.{place_where}
use Rattle.packetless_machine.specs.Machine.{is_at}
use Rattle.packetless_machine.specs.Keyed.{key_by}
use Rattle.packetless_machine.proofs.Memory.{holds_there, put_at_there, put_at_nowhere}
use Rattle.packetless_machine.proofs.region.put_at.Goals as goal

pub overwrite-requires : goal.overwrite-requires
overwrite-requires c =
    rw (← c.requires) (holds_there (key_by c.args.place.now.kind) c.args.place.now.key c.args.place.now.address c.args.place.now.count c.args.regions.now.items c.in-Some.region.now (search rules) (search rules))

pub returns-in-Some : goal.returns-in-Some
returns-in-Some c =
    let at : c.place_at-at.result ≡ place_where (is_at (key_by c.args.place.now.kind) c.args.place.now.key c.args.place.now.address (length c.args.new.now)) c.args.regions.now.items = rw (← c.requires, ← c.deref.ensures.value) c.place_at-at.ensures in
    rw (put_at_there (key_by c.args.place.now.kind) c.args.place.now.key c.args.place.now.address c.args.new.now c.args.regions.now.items c.in-Some.region.now (rw (← at) (search rules)) (rw (← at) (search rules)), ← at, c.overwrite.ensures) refl

pub returns-in_default : goal.returns-in_default
returns-in_default c =
    let at : c.place_at-at.result ≡ place_where (is_at (key_by c.args.place.now.kind) c.args.place.now.key c.args.place.now.address (length c.args.new.now)) c.args.regions.now.items = rw (← c.requires, ← c.deref.ensures.value) c.place_at-at.ensures in
    let past : length c.args.regions.now.items ≤ c.place_at-at.result = search rules in
    sym (put_at_nowhere (key_by c.args.place.now.kind) c.args.place.now.key c.args.place.now.address c.args.new.now c.args.regions.now.items (rw (← at) past))
