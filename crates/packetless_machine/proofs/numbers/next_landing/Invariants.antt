use Rattle.std.proofs.Common.{◌≡◌, ◌+◌, drop}
use Rattle.rdma_types.specs.Spans.{next_landing}
use Rattle.packetless_machine.proofs.numbers.next_landing.Given as goal

abbrev pub invariant-loop-r : goal.invariant-loop-r
invariant-loop-r l = l.before + next_landing (drop l.r-index l.posted) l.mtu l.left ≡ next_landing l.posted l.mtu l.n
