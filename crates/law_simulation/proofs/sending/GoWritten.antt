-- The packets of requests and of RESUME can be written, and read back.
use Rattle.std.proofs.Common.{arith, ◌≡◌, ◌≤◌, ◌<◌, ◌^◌, ℕ, refl}
use Rattle.std.specs.Prelude.{Some}
use Rattle.rdma_types.specs.declared.requests.Kind.{Kind}
use Rattle.rdma_types.specs.declared.requests.Kind.TheVariants.{Write, Send, Read, CompareSwap, FetchAdd}
use Rattle.rdma_types.specs.Kinds.{kind_of, size_of}
use Rattle.rdma_types.specs.Limits.{most_bytes}
use Rattle.rdma_types.specs.Objects.{Posted}
use Rattle.protocol.specs.declared.wire.ResumeBody.{ResumeBody}
use Rattle.protocol.specs.Numbers.{wire_number}
use Rattle.protocol.specs.Moves.{resume_packet}
use Rattle.protocol.specs.Segments.{message_packet, read_packet, atomic_packet, packet_of_piece}
use Rattle.protocol.specs.Wire.{Packet, Fits, layout_of, is_request, packet_of, wire_of}
use Rattle.protocol.proofs.FittingPackets.{of_kind, piece-fits, piece-request, resume-fits}
use Rattle.protocol.proofs.PacketGrammar.{spelled_read}
use Rattle.protocol.proofs.WrittenPackets.{written_spelled}
use Rattle.law_simulation.specs.Joined.{IsSayable}
use Rattle.law_simulation.specs.Packets.{class_of, resume_class, IsRequest, IsResume}

-- what is written is read as what it was written from
pub reads_back : (d : Packet) → Fits d → packet_of (wire_of d) ≡ Some d
reads_back d fits = spelled_read d (wire_of d) (written_spelled d fits)

-- ---- pieces of requests

-- the packet of a piece can be written
pub fits_piece : (p : Posted) (mtu k dest psn : ℕ) → IsSayable p → size_of p ≤ most_bytes → mtu ≤ 4096 → dest < 2 ^ 24 → psn < 2 ^ 24 → Fits (packet_of_piece p mtu k dest psn)
fits_piece p mtu k dest psn said short = piece-fits p mtu k dest psn (record { length' = omega (arith, short); remote = said.remote; rkey = said.rkey; imm = said.imm; swap_add = said.swap_add; compare = said.compare; no_compare = said.no_compare })

-- .. and is a request
pub class_piece : (p : Posted) (mtu k dest psn : ℕ) → class_of (packet_of_piece p mtu k dest psn) ≡ IsRequest
unfolding class_of
class_piece p mtu k dest psn = rw (piece-request p mtu k dest psn) refl

dest_kind : (p : Posted) (kind : Kind) (mtu k dest psn : ℕ) → (packet_of_piece (of_kind p kind) mtu k dest psn).dest ≡ dest
unfolding packet_of_piece message_packet read_packet atomic_packet
dest_kind p Send mtu k dest psn = refl
dest_kind p Write mtu k dest psn = refl
dest_kind p Read mtu k dest psn = refl
dest_kind p CompareSwap mtu k dest psn = refl
dest_kind p FetchAdd mtu k dest psn = refl

pub dest_piece : (p : Posted) (mtu k dest psn : ℕ) → (packet_of_piece p mtu k dest psn).dest ≡ dest
dest_piece p mtu k dest psn = dest_kind p (kind_of p) mtu k dest psn

pub wire_number_bits : (start n : ℕ) → wire_number start n < 2 ^ 24
unfolding wire_number
wire_number_bits start n = omega arith

-- ---- RESUME

pub fits_resume : (dest : ℕ) (body : ResumeBody) → dest < 2 ^ 24 → body.count < 2 ^ 32 → body.address.ip < 2 ^ 32 → body.address.port < 2 ^ 16 → Fits (resume_packet 0x1E dest body)
unfolding layout_of
fits_resume dest body dest_fits count ip port = resume-fits 0x1E dest body refl dest_fits (record { count = count; ip = ip; port = port })

pub class_resume : (dest : ℕ) (body : ResumeBody) → class_of (resume_packet 0x1E dest body) ≡ IsResume body
unfolding class_of is_request resume_class
class_resume dest body = refl
