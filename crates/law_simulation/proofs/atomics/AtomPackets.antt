-- What the packet of an atomic says, and what an atomic makes of a word.
use Rattle.std.proofs.Common.{◌≡◌, ℕ, ◌+◌, ◌%◌, true, false, Bool, refl}
use Rattle.std.specs.Prelude.{Some, None, if◌then◌else◌, ◌==◌}
use Rattle.rdma_types.specs.declared.requests.Kind.{Kind}
use Rattle.rdma_types.specs.declared.requests.Kind.TheVariants as kinds'
use Rattle.rdma_types.specs.Kinds as kinds
use Rattle.rdma_types.specs.Kinds.{kind_of}
use Rattle.rdma_types.specs.Memory.{RemoteAtomic}
use Rattle.rdma_types.specs.Objects.{Posted}
use Rattle.protocol.specs.declared.wire.AtomicEth.{AtomicEth}
use Rattle.protocol.specs.Segments.{atomic_packet, opcode_of}
use Rattle.protocol.specs.Wire.{Packet}
use Rattle.protocol.specs.Responder.{atomic_value, is_read_request, is_send, is_write}
use Rattle.packetless_machine.specs.Bytes.{sum_of, swapped}
use Rattle.packetless_machine.specs.Steps.{changed_by, changed_word, right_for}

-- the header of an atomic
abbrev pub header_of : Posted → AtomicEth
header_of r = record { address = r.request.shape.remote; rkey = r.request.shape.rkey; swap_add = r.request.shape.swap_add; compare = r.request.shape.compare }

-- the packet of an atomic
pub record IsAtomicPacket (r : Posted) (d : Packet) : Type 0 where
  pub send : is_send d.opcode ≡ false
  pub write : is_write d.opcode ≡ false
  pub read : is_read_request d.opcode ≡ false
  pub reth : d.reth ≡ None
  pub header : d.atomic ≡ Some (header_of r)
  pub value : (old : ℕ) → atomic_value d.opcode (header_of r) old ≡ changed_word r old

-- what an opcode tells of a kind
record IsOpcodeOf (k : Kind) (opcode : ℕ) : Type 0 where
  send : is_send opcode ≡ false
  write : is_write opcode ≡ false
  read : is_read_request opcode ≡ false
  value : (old value compare : ℕ) → (if opcode == 0x14 then (old + value) % 18446744073709551616 else if old == compare then value else old) ≡ changed_by k old value compare

by_kind : (k : Kind) → kinds.is_atomic k ≡ true → IsOpcodeOf k (opcode_of k true true false)
unfolding opcode_of changed_by sum_of swapped
by_kind kinds'.CompareSwap h = record { send = refl; write = refl; read = refl; value = λ old value compare. refl }
by_kind kinds'.FetchAdd h = record { send = refl; write = refl; read = refl; value = λ old value compare. refl }
by_kind kinds'.Read h = absurd (cc)
by_kind kinds'.Write h = absurd (cc)
by_kind kinds'.Send h = absurd (cc)

pub atomic_packet_is : (r : Posted) (dest psn : ℕ) → kinds.is_atomic (kind_of r) ≡ true → IsAtomicPacket r (atomic_packet r.request.shape dest psn)
unfolding atomic_packet changed_word
atomic_packet_is r dest psn h =
    let k = by_kind (kind_of r) h in
    record { send = k.send; write = k.write; read = k.read; reth = refl; header = refl; value = λ old. k.value old r.request.shape.swap_add r.request.shape.compare }

-- ---- an atomic is no other request

pub atomic_not : (f : Kind → Bool) → f kinds'.CompareSwap ≡ false → f kinds'.FetchAdd ≡ false → (k : Kind) → kinds.is_atomic k ≡ true → f k ≡ false
atomic_not f a b kinds'.CompareSwap h = a
atomic_not f a b kinds'.FetchAdd h = b
atomic_not f a b kinds'.Read h = absurd (cc)
atomic_not f a b kinds'.Write h = absurd (cc)
atomic_not f a b kinds'.Send h = absurd (cc)

pub atomic_right : (k : Kind) → kinds.is_atomic k ≡ true → right_for k ≡ RemoteAtomic
unfolding right_for
atomic_right kinds'.CompareSwap h = refl
atomic_right kinds'.FetchAdd h = refl
atomic_right kinds'.Read h = absurd (cc)
atomic_right kinds'.Write h = absurd (cc)
atomic_right kinds'.Send h = absurd (cc)
