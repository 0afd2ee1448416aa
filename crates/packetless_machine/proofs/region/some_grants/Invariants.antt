use Rattle.std.proofs.Common.{◌≡◌, drop}
use Rattle.std.specs.List.{list_any}
use Rattle.rdma_types.specs.Memory.{grants}
use Rattle.packetless_machine.specs.Keyed.{key_by, right_of}
use Rattle.packetless_machine.proofs.region.some_grants.Given as goal

abbrev pub invariant-loop-region : goal.invariant-loop-region
invariant-loop-region l = list_any (grants (key_by l.place.kind) l.domain l.place.key l.place.address l.place.count (right_of l.need)) (drop l.region-index l.regions) ≡ list_any (grants (key_by l.place.kind) l.domain l.place.key l.place.address l.place.count (right_of l.need)) l.regions
