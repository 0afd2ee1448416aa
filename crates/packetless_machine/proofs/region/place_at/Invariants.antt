use Rattle.std.proofs.Common.{◌≡◌, ◌+◌, drop}
use Rattle.packetless_machine.specs.Tables.{place_where}
use Rattle.packetless_machine.specs.Machine.{is_at}
use Rattle.packetless_machine.specs.Keyed.{key_by}
use Rattle.packetless_machine.proofs.region.place_at.Given as goal

abbrev pub invariant-loop-i : goal.invariant-loop-i
invariant-loop-i l =
    place_where (is_at (key_by l.place.kind) l.place.key l.place.address l.place.count) (drop l.i l.regions) + l.i
    ≡ place_where (is_at (key_by l.place.kind) l.place.key l.place.address l.place.count) l.regions
