use Rattle.std.proofs.Common.{◌≡◌, ◌≤◌, [], length}
use Rattle.std.specs.List.{All}
use Rattle.std.specs.Vec.{vec_capacity}
use Rattle.host_ports.specs.Links.{longest_datagram}
use Rattle.host_ports.proofs.mem_link.room_for.Given as goal

abbrev pub invariant-loop : goal.invariant-loop
invariant-loop l = record {
  count : length l.spare.items ≡ l.counter;
  room : All (λ b. (b.items ≡ []) × (longest_datagram ≤ vec_capacity b)) l.spare.items;
}
