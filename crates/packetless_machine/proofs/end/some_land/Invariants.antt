use Rattle.std.proofs.Common.{◌≡◌, drop}
use Rattle.std.specs.List.{list_any}
use Rattle.rdma_types.specs.Kinds.{lands, kind_of}
use Rattle.packetless_machine.proofs.end.some_land.Given as goal

abbrev pub invariant-loop-r : goal.invariant-loop-r
invariant-loop-r l = list_any (λ r. lands (kind_of r)) (drop l.r-index l.requests) ≡ list_any (λ r. lands (kind_of r)) l.requests
