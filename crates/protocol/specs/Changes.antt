-- Where a request may change bytes, said without the rules.
use Rattle.std.specs.Prelude.{ℕ, ◌≡◌, ◌+◌, ◌==◌, ◌&&◌, ◌||◌, Bool, false, List, [], ◌∷◌, ◌++◌, Option, Some, None, bytes_eq, nat_le, nat_lt, slice_get}
use Rattle.std.specs.Bool.{OnFalse}
use Rattle.rdma_types.specs.Memory.{RemoteAtomic, RemoteWrite, Right, allows}
use Rattle.rdma_types.specs.Objects.{Region}
use Rattle.rdma_types.specs.declared.names.Name.{Name}
use Rattle.rdma_types.specs.declared.requests.Receive.{Receive}
use Rattle.protocol.specs.declared.wire.AtomicEth.{AtomicEth}
use Rattle.protocol.specs.declared.wire.Reth.{Reth}
use Rattle.protocol.specs.EndWords.{in_use_by}
use Rattle.protocol.specs.State.{Progress, NoMessage, InSend, InWrite, Receiver}
use Rattle.protocol.specs.Wire.{Packet}

-- place k is one of the `count` places from `start` on
abbrev pub is_among : ℕ → ℕ → ℕ → Bool
is_among start count k = nat_le start k && nat_lt k (start + count)

-- the region is one of the domain with this remote key, it gives the right, its range holds so many bytes from the address
-- on, and its byte at offset k is one of them
abbrev pub is_granted_byte : Name → Region → ℕ → ℕ → ℕ → Right → ℕ → Bool
is_granted_byte domain r rkey address count right k =
    bytes_eq r.domain domain
    && ((r.keys.remote == rkey)
    && (allows r.rights right
    && (nat_le r.base address && (nat_le (address + count) (r.base + r.length) && is_among address count (r.base + k)))))

-- a byte that the packet's RETH is granted for writing
abbrev pub is_reth_byte : Name → Region → ℕ → Option Reth → Bool
is_reth_byte domain r k None = false
is_reth_byte domain r k (Some h) = is_granted_byte domain r h.rkey h.address h.length RemoteWrite k

-- a byte of the word that the packet's AtomicETH is granted
abbrev pub is_atomic_byte : Name → Region → ℕ → Option AtomicEth → Bool
is_atomic_byte domain r k None = false
is_atomic_byte domain r k (Some h) = is_granted_byte domain r h.rkey h.address 8 RemoteAtomic k

-- a byte of the WRITE in progress
abbrev pub is_message_byte : Region → ℕ → Progress → Bool
is_message_byte r k NoMessage = false
is_message_byte r k (InSend done receive) = false
is_message_byte r k (InWrite region off count done) = (r.keys.local == region) && is_among off count k

-- a byte of the first of these receives
abbrev pub is_receive_byte : Region → ℕ → List Receive → Bool
is_receive_byte r k [] = false
is_receive_byte r k (x ∷ xs) = (r.keys.local == x.lkey) && is_among x.local x.length (r.base + k)

-- the range that the packet is granted, the range of the message in progress, or the receive in use or oldest unused
abbrev pub may_change : Name → Receiver → List Receive → Packet → Region → ℕ → Bool
may_change domain receiver unused d r k =
    is_reth_byte domain r k d.reth
    || (is_atomic_byte domain r k d.atomic
    || (is_message_byte r k receiver.progress || is_receive_byte r k (in_use_by receiver.progress ++ unused)))

-- all of a region but its bytes
pub record IsSameRegion (old new : Region) : Type 0 where
  pub name : new.name ≡ old.name
  pub domain : new.domain ≡ old.domain
  pub base : new.base ≡ old.base
  pub length' : new.length ≡ old.length
  pub rights : new.rights ≡ old.rights
  pub keys : new.keys ≡ old.keys

-- the same region, where each byte that may not change is as it was
pub record KeepsRest (domain : Name) (receiver : Receiver) (unused : List Receive) (d : Packet) (old new : Region) : Type 0 where
  pub same : IsSameRegion old new
  pub rest : (k : ℕ) → OnFalse (may_change domain receiver unused d old k) (slice_get new.bytes k ≡ slice_get old.bytes k)

-- the region at a place, as it was and as it is
pub record KeepsRestAt (domain : Name) (receiver : Receiver) (unused : List Receive) (d : Packet) (olds news : List Region) (i : ℕ) (old : Region) : Type 0 where
  pub new : Region
  pub there : slice_get news i ≡ Some new
  pub keeps : KeepsRest domain receiver unused d old new
