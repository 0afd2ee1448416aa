-- A packet told by its head: the request, the destination and the wire number give the rest.
use Rattle.std.specs.Prelude.{ℕ, ◌≡◌, ◌==◌, ◌||◌, not, Bool, true, length}
use Rattle.rdma_types.specs.declared.requests.Shape.{Shape}
use Rattle.protocol.specs.Bytes.{bytes_at}
use Rattle.rdma_types.specs.Kinds.{takes_bytes}
use Rattle.rdma_types.specs.Objects.{Posted}
use Rattle.protocol.specs.Segments.{is_eighth}
use Rattle.protocol.specs.Wire.{Packet, plain, when}
use Rattle.transport.specs.declared.segmenter.head.PacketHead.{PacketHead}

-- a posted request of this shape: a Write or Send has the bytes of its length
pub record Asks (p : Posted) (shape : Shape) : Type 0 where
  pub same : p.request.shape ≡ shape
  pub whole : takes_bytes shape.kind ≡ true → length p.payload ≡ shape.length

-- WRITE First and Only, and a READ request, have a RETH
abbrev pub has_reth : ℕ → Bool
has_reth opcode = opcode == 0x06 || opcode == 0x0A || opcode == 0x0B || opcode == 0x0C

-- CmpSwap and FetchAdd have an AtomicETH
abbrev pub has_atomic : ℕ → Bool
has_atomic opcode = opcode == 0x13 || opcode == 0x14

-- First and Middle packets ask for no acknowledgement by themselves
abbrev pub asks_by_place : ℕ → Bool
asks_by_place opcode = not (opcode == 0x00 || opcode == 0x01 || opcode == 0x06 || opcode == 0x07)

-- the packet of a head, of its request, for a destination and under a wire number
abbrev pub packet_with : PacketHead → Posted → ℕ → ℕ → Packet
packet_with h p dest psn = record (plain h.opcode dest psn) {
  ack_request = asks_by_place h.opcode || is_eighth psn;
  reth = when (has_reth h.opcode) (record { address = h.remote; rkey = p.request.shape.rkey; length = h.rest });
  atomic = when (has_atomic h.opcode) (record { address = h.remote; rkey = p.request.shape.rkey; swap_add = p.request.shape.swap_add; compare = p.request.shape.compare });
  imm = h.imm;
  payload = bytes_at h.off h.length p.payload;
}
