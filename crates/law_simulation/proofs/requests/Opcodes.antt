-- What the opcode of a message's packet tells: whether it is of a Send, and which part of the message it is.
use Rattle.std.proofs.Common.{◌≡◌, ℕ, true, false, Bool, refl}
use Rattle.std.specs.Prelude.{◌&&◌, is_some}
use Rattle.rdma_types.specs.declared.requests.Kind.{Kind}
use Rattle.rdma_types.specs.declared.requests.Kind.TheVariants.{Write, Send, Read, CompareSwap, FetchAdd}
use Rattle.rdma_types.specs.Kinds as kinds
use Rattle.rdma_types.specs.Kinds.{kind_of}
use Rattle.rdma_types.specs.Objects.{Posted}
use Rattle.protocol.specs.Segments.{opcode_of, packet_of_piece, message_packet, read_packet, atomic_packet, is_first_piece, is_last_piece}
use Rattle.protocol.specs.Responder.{Part, First, Middle, Last, Only, part_of, is_send, is_write, is_read_request}

-- the part that is the first, the last, both or neither
abbrev pub part : Bool → Bool → Part
part true true = Only
part true false = First
part false true = Last
part false false = Middle

-- an opcode of a message
pub record IsMessage (kind : Kind) (first last : Bool) (opcode : ℕ) : Type 0 where
  pub send : is_send opcode ≡ kinds.is_send kind
  pub write : is_write opcode ≡ kinds.is_write kind
  pub read : is_read_request opcode ≡ false
  pub part : part_of opcode ≡ part first last

pub message_opcode : (kind : Kind) (first last imm : Bool) → kinds.is_read kind ≡ false → kinds.is_atomic kind ≡ false → IsMessage kind first last (opcode_of kind first last imm)
unfolding opcode_of part_of
message_opcode Write true true true r t = record { send = refl; write = refl; read = refl; part = refl }
message_opcode Write true true false r t = record { send = refl; write = refl; read = refl; part = refl }
message_opcode Write true false true r t = record { send = refl; write = refl; read = refl; part = refl }
message_opcode Write true false false r t = record { send = refl; write = refl; read = refl; part = refl }
message_opcode Write false true true r t = record { send = refl; write = refl; read = refl; part = refl }
message_opcode Write false true false r t = record { send = refl; write = refl; read = refl; part = refl }
message_opcode Write false false true r t = record { send = refl; write = refl; read = refl; part = refl }
message_opcode Write false false false r t = record { send = refl; write = refl; read = refl; part = refl }
message_opcode Send true true true r t = record { send = refl; write = refl; read = refl; part = refl }
message_opcode Send true true false r t = record { send = refl; write = refl; read = refl; part = refl }
message_opcode Send true false true r t = record { send = refl; write = refl; read = refl; part = refl }
message_opcode Send true false false r t = record { send = refl; write = refl; read = refl; part = refl }
message_opcode Send false true true r t = record { send = refl; write = refl; read = refl; part = refl }
message_opcode Send false true false r t = record { send = refl; write = refl; read = refl; part = refl }
message_opcode Send false false true r t = record { send = refl; write = refl; read = refl; part = refl }
message_opcode Send false false false r t = record { send = refl; write = refl; read = refl; part = refl }
message_opcode Read first last imm r t = absurd (cc)
message_opcode CompareSwap first last imm r t = absurd (cc)
message_opcode FetchAdd first last imm r t = absurd (cc)

-- the packet of a Write or Send
pub message_is : (p : Posted) (mtu k dest psn : ℕ) → kinds.is_read (kind_of p) ≡ false → kinds.is_atomic (kind_of p) ≡ false → packet_of_piece p mtu k dest psn ≡ message_packet p mtu k dest psn (is_first_piece k) (is_last_piece p.request.shape mtu k)
unfolding packet_of_piece
message_is p mtu k dest psn r t = rw (r, t) refl

-- .. of a Read
pub read_is : (p : Posted) (mtu k dest psn : ℕ) → kinds.is_read (kind_of p) ≡ true → packet_of_piece p mtu k dest psn ≡ read_packet p.request.shape mtu k dest psn
unfolding packet_of_piece
read_is p mtu k dest psn r = rw r refl

-- .. of an atomic
pub atomic_is : (p : Posted) (mtu k dest psn : ℕ) → kinds.is_read (kind_of p) ≡ false → kinds.is_atomic (kind_of p) ≡ true → packet_of_piece p mtu k dest psn ≡ atomic_packet p.request.shape dest psn
unfolding packet_of_piece
atomic_is p mtu k dest psn r t = rw (r, t) refl

pub message_kind : (p : Posted) (mtu k dest psn : ℕ) → kinds.is_read (kind_of p) ≡ false → kinds.is_atomic (kind_of p) ≡ false → IsMessage (kind_of p) (is_first_piece k) (is_last_piece p.request.shape mtu k) (message_packet p mtu k dest psn (is_first_piece k) (is_last_piece p.request.shape mtu k)).opcode
unfolding message_packet
message_kind p mtu k dest psn r t = message_opcode p.request.shape.kind (is_first_piece k) (is_last_piece p.request.shape mtu k) (is_last_piece p.request.shape mtu k && is_some p.request.shape.imm) r t
