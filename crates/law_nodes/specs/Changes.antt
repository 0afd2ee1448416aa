-- Which things on a device an event may change, whatever bytes arrive there (IBA 10.6; what is safe is this project's choice).
use Rattle.std.specs.Prelude.{ℕ, ◌≡◌, ◌⊎◌, ◌≤◌, ◌<◌, ◌+◌, true, List, ◌∷◌, length, Some}
use Rattle.protocol.specs.declared.events.Event.{Event}
use Rattle.protocol.specs.declared.events.Event.TheVariants as event
use Rattle.protocol.specs.DeviceStep.{Found, found_in, keys_of}
use Rattle.protocol.specs.Memory.{region_of_key}
use Rattle.protocol.specs.State.{Device, context_at, end_at, queue_at, region_at}
use Rattle.protocol.specs.Wire.{Packet, packet_of}
use Rattle.protocol.specs.WorldStep.{context_of_event}
use Rattle.rdma_types.specs.declared.names.Name.{Name}
use Rattle.rdma_types.specs.Objects.{Region}
use Rattle.law_arrivals.specs.Reach.{may_reach}
use Rattle.law_arrivals.specs.Touched.{byte_of, frame}

-- ---- what a device holds

-- a thing that a device holds
pub data Thing : Type 0 where
  Byte : (context : Name) → (lkey offset : ℕ) → Thing  -- a byte of the region with that local key
  Pair : (context name : Name) → Thing  -- a queue pair with all its work
  Queue : (context name : Name) → Thing  -- a completion queue with its entries
  Frame : (context : Name) → Thing  -- names, numbers, keys, rights and connections of all that a context has
  Husks : Thing  -- what contexts that moved away have left

-- the thing is the same on two devices
abbrev pub IsSame : Device → Device → Thing → Type 0
IsSame old new (Byte c lkey offset) = byte_of new c lkey offset ≡ byte_of old c lkey offset
IsSame old new (Pair c n) = end_at (context_at new c) n ≡ end_at (context_at old c) n
IsSame old new (Queue c n) = queue_at (context_at new c) n ≡ queue_at (context_at old c) n
IsSame old new (Frame c) = frame (context_at new c) ≡ frame (context_at old c)
IsSame old new Husks = new.husks ≡ old.husks

-- ---- by a datagram

-- the bytes are a datagram for a connected end of that context: for the first with the number that it names
pub record IsReached (d : Device) (bytes : List ℕ) (context : Name) : Type 0 where
  pub packet : Packet
  pub reads : packet_of bytes ≡ Some packet
  pub end : Found
  pub others : List Found
  pub named : found_in packet.dest d.contexts ≡ end ∷ others
  pub of_context : end.context.name ≡ context

-- an arrival may change that end, its two completion queues, and the bytes that the end lets a packet of that kind change as things
-- stand: those that its remote key grants, with the right to it; a receive or the rest of a message; the local places of what was posted
abbrev pub ArrivalChanges : Device → List ℕ → Thing → Type 0
ArrivalChanges d bytes (Byte c lkey offset) = (r : IsReached d bytes c) × (may_reach r.end.end r.end.link r.packet (region_of_key r.end.context lkey) offset ≡ true)
ArrivalChanges d bytes (Pair c n) = (r : IsReached d bytes c) × (n ≡ r.end.end.name)
ArrivalChanges d bytes (Queue c n) = (r : IsReached d bytes c) × ((n ≡ r.end.end.send_cq) ⊎ (n ≡ r.end.end.recv_cq))
ArrivalChanges d bytes (Frame c) = ⊥
ArrivalChanges d bytes Husks = ⊥

-- ---- by what the node itself does

-- the byte at an offset of the region with a local key is one of `count` bytes from an address of that region on
pub record IsStoredAt (r : Region) (address count lkey offset : ℕ) : Type 0 where
  pub key : lkey ≡ r.keys.local
  pub low : address ≤ r.base + offset
  pub high : r.base + offset < address + count

-- a byte of the context changes by a store there, or where its region is made or dropped, or its context leaves or comes
abbrev pub OwnerChanges : Device → Event → (context : Name) → (lkey offset : ℕ) → Type 0
OwnerChanges d (event.Store o at bytes) c lkey offset = IsStoredAt (region_at (context_at d o.context) o.name) at (length bytes) lkey offset
OwnerChanges d (event.MakeRegion o domain base size rights) c lkey offset = lkey ≡ (keys_of d).local
OwnerChanges d (event.DropRegion o) c lkey offset = lkey ≡ (region_at (context_at d o.context) o.name).keys.local
OwnerChanges d (event.Stop name alone) c lkey offset = Unit {0}
OwnerChanges d (event.Restore image) c lkey offset = Unit {0}
OwnerChanges d other c lkey offset = ⊥

-- the context that an event is of
abbrev pub subject_of : Event → Name
subject_of (event.MakeContext name) = name
subject_of (event.Connect o peer partner terms) = o.context
subject_of (event.Stop name alone) = name
subject_of (event.Restore image) = image.name
subject_of (event.Release name) = name
subject_of other = context_of_event other

-- a husk is left by a stop, and forgotten by a release
abbrev pub ChangesHusks : Event → Type 0
ChangesHusks (event.Stop name alone) = Unit {0}
ChangesHusks (event.Release name) = Unit {0}
ChangesHusks other = ⊥

-- an event that the node asks for itself may change things of its own context
abbrev pub OwnEventChanges : Device → Event → Thing → Type 0
OwnEventChanges d e (Byte c lkey offset) = (c ≡ subject_of e) × OwnerChanges d e c lkey offset
OwnEventChanges d e (Pair c n) = c ≡ subject_of e
OwnEventChanges d e (Queue c n) = c ≡ subject_of e
OwnEventChanges d e (Frame c) = c ≡ subject_of e
OwnEventChanges d e Husks = ChangesHusks e

-- ---- any event

-- the event may change the thing
abbrev pub MayChange : Device → Event → Thing → Type 0
MayChange d (event.Arrive from bytes) t = ArrivalChanges d bytes t
MayChange d e t = OwnEventChanges d e t
