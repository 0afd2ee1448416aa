use Rattle.std.proofs.Common.{◌≡◌, ◌+◌, drop}
use Rattle.rdma_types.specs.Spans.{piece_of, request_of}
use Rattle.packetless_machine.proofs.reading.place_in.Given as goal

abbrev pub invariant-loop-i : goal.invariant-loop-i
invariant-loop-i l = record {
  request : l.i + request_of (drop l.i l.posted) l.mtu l.left ≡ request_of l.posted l.mtu l.n;
  piece : piece_of (drop l.i l.posted) l.mtu l.left ≡ piece_of l.posted l.mtu l.n;
}
