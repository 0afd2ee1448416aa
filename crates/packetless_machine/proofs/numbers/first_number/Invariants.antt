use Rattle.std.proofs.Common.{◌≡◌, ◌+◌, ◌-◌, ◌≤◌, drop}
use Rattle.rdma_types.specs.Spans.{first_number}
use Rattle.packetless_machine.proofs.numbers.first_number.Given as goal

abbrev pub invariant-loop-k : goal.invariant-loop-k
invariant-loop-k l = (l.total + first_number (drop l.k l.posted) l.mtu (l.i - l.k) ≡ first_number l.posted l.mtu l.i) × (l.k ≤ l.i)
