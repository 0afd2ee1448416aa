-- Who may change what a context holds, by a step of the packetless machine: its owner, work that its owner posted, and the partner of
-- a connection under a key that grants it (IBA chapter 10, memory management).
use Rattle.std.specs.Prelude.{◌≡◌, ◌≤◌, ◌<◌, ◌+◌, ◌⊎◌, ℕ, true, [], length, slice_get, Option, Some, None}
use Rattle.rdma_types.specs.declared.names.Name.{Name}
use Rattle.rdma_types.specs.declared.names.ObjName.{ObjName}
use Rattle.rdma_types.specs.declared.requests.Kind.{Kind}
use Rattle.rdma_types.specs.declared.requests.Kind.TheVariants as kinds
use Rattle.rdma_types.specs.declared.requests.Receive.{Receive}
use Rattle.rdma_types.specs.declared.verbs.Verb.{Verb}
use Rattle.rdma_types.specs.declared.verbs.Verb.TheVariants as verbs
use Rattle.rdma_types.specs.Kinds.{is_read, kind_of, size_of}
use Rattle.rdma_types.specs.Memory.{Grants, RemoteAtomic, RemoteWrite, Right, local_key, remote_key}
use Rattle.rdma_types.specs.Objects.{Region}
use Rattle.packetless_machine.specs.declared.reply.Reply.{Reply}
use Rattle.packetless_machine.specs.declared.reply.Reply.TheVariants.{Finished, OldValue, Denied}
use Rattle.packetless_machine.specs.declared.steps.MachineStep.{MachineStep}
use Rattle.packetless_machine.specs.declared.steps.MachineStep.TheVariants as steps
use Rattle.packetless_machine.specs.Machine.{Machine, context_of, end_of, queue_of}
use Rattle.packetless_machine.specs.Steps.{current, front, peer_of, receive_for}
use Rattle.packetless_machine.specs.Verbs.{region_of}

-- ---- what a context holds

-- a thing that a context holds
pub data Thing : Type 0 where
  Byte : ObjName → ℕ → Thing  -- the byte at an offset of a memory region
  Plan : ObjName → Thing  -- a memory region but for its bytes: its domain, addresses, rights and keys
  Queue : ObjName → Thing  -- a completion queue with its entries
  Pair : ObjName → Thing  -- a queue pair with all its work
  Domains : Name → Thing  -- the protection domains of a context

-- the byte at an offset of a region, if there is one
abbrev pub byte_of : Machine → ObjName → ℕ → Option ℕ
byte_of m o k = slice_get (region_of m o).bytes k

-- a region but for its bytes
abbrev pub plan_of : Region → Region
plan_of r = record r { bytes = [] }

-- a thing is the same in two states of the machine
abbrev pub IsSame : Machine → Machine → Thing → Type 0
IsSame m m' (Byte o k) = byte_of m' o k ≡ byte_of m o k
IsSame m m' (Plan o) = plan_of (region_of m' o) ≡ plan_of (region_of m o)
IsSame m m' (Queue o) = queue_of m' o.context o.name ≡ queue_of m o.context o.name
IsSame m m' (Pair o) = end_of m' o ≡ end_of m o
IsSame m m' (Domains c) = (context_of m' c).domains ≡ (context_of m c).domains

-- ---- bytes of memory

-- byte k of a region is one of `count` bytes from an address on
pub record IsWithin (address count : ℕ) (r : Region) (k : ℕ) : Type 0 where
  pub low : address ≤ r.base + k
  pub high : r.base + k < address + count

-- by a verb the owner of a region changes that byte of it: a store there; or the region is made or dropped
abbrev pub OwnerChanges : Machine → Verb → ObjName → ℕ → Type 0
OwnerChanges m (verbs.Store name address bytes) o k = (name ≡ o) × IsWithin address (length bytes) (region_of m o) k
OwnerChanges m (verbs.MakeRegion name domain base count rights) o k = name ≡ o
OwnerChanges m (verbs.DropRegion name) o k = name ≡ o
OwnerChanges m other o k = ⊥

-- the partner of q grants the byte to the current request of q, as things stand at this step: the region is of the partner's context
-- and in the domain of the partner's queue pair; the request's key, the region's rights and its addresses grant the request its
-- whole range; and the byte is in that range
pub record IsGrantedNow (m : Machine) (q : ObjName) (right : Right) (o : ObjName) (k : ℕ) : Type 0 where
  pub context : (end_of m q).peer.context ≡ o.context
  pub grants : Grants remote_key (peer_of m q).domain (current (end_of m q)).request.shape.rkey (current (end_of m q)).request.shape.remote (size_of (current (end_of m q))) right (region_of m o)
  pub within : IsWithin (current (end_of m q)).request.shape.remote (size_of (current (end_of m q))) (region_of m o) k

-- byte k of a region is in a place that was posted: a local key, an address and a count of bytes
pub record IsInPlace (lkey address count : ℕ) (r : Region) (k : ℕ) : Type 0 where
  pub key : local_key r ≡ lkey
  pub within : IsWithin address count r k

-- the partner of q posted a receive with the byte in its place: the one in use, or else the oldest unused one
pub record IsReceivedNow (m : Machine) (q o : ObjName) (k : ℕ) : Type 0 where
  pub context : (end_of m q).peer.context ≡ o.context
  pub receive : Receive
  pub posted : receive_for (peer_of m q) ≡ Some receive
  pub place : IsInPlace receive.lkey receive.local receive.length (region_of m o) k

-- a message of q, by its kind, changes the byte: a Write under its key, a Send in the receive that the partner posted
abbrev pub MessageChanges : Machine → ObjName → Kind → ObjName → ℕ → Type 0
MessageChanges m q kinds.Write o k = IsGrantedNow m q RemoteWrite o k
MessageChanges m q kinds.Send o k = IsReceivedNow m q o k
MessageChanges m q other o k = ⊥

-- the byte is one of `count` bytes at the local place of the first untold request of q, which is of the same context
pub record IsAwaited (m : Machine) (q : ObjName) (count : ℕ) (o : ObjName) (k : ℕ) : Type 0 where
  pub context : q.context ≡ o.context
  pub place : IsInPlace (front (end_of m q)).request.lkey (front (end_of m q)).request.local count (region_of m o) k

-- an answer is the old value of an atomic
abbrev pub IsOldValue : Option Reply → Type 0
IsOldValue (Some (OldValue value)) = Unit {0}
IsOldValue (Some Finished) = ⊥
IsOldValue (Some (Denied why)) = ⊥
IsOldValue None = ⊥

-- the step may change that byte
abbrev pub MayChangeByte : Machine → MachineStep → ObjName → ℕ → Type 0
MayChangeByte m (steps.Verb verb given) o k = OwnerChanges m verb o k
MayChangeByte m (steps.Run q n) o k = MessageChanges m q (kind_of (current (end_of m q))) o k
MayChangeByte m (steps.Atom q) o k = IsGrantedNow m q RemoteAtomic o k
MayChangeByte m (steps.Land q i) o k = (is_read (kind_of (front (end_of m q))) ≡ true) × IsAwaited m q (size_of (front (end_of m q))) o k
MayChangeByte m (steps.Tell q) o k = IsOldValue (slice_get (end_of m q).answers (end_of m q).told) × IsAwaited m q 8 o k
MayChangeByte m other o k = ⊥

-- ---- queue pairs, completion queues, and what is made and dropped

-- the queue pair whose step it is
abbrev pub pair_of : MachineStep → Option ObjName
pair_of (steps.Verb verb given) = None
pair_of (steps.Run q n) = Some q
pair_of (steps.Atom q) = Some q
pair_of (steps.ReadTurn q) = Some q
pair_of (steps.Refuse q why) = Some q
pair_of (steps.Dry q) = Some q
pair_of (steps.Offer q i off n) = Some q
pair_of (steps.Land q i) = Some q
pair_of (steps.Known q bytes) = Some q
pair_of (steps.Tell q) = Some q
pair_of (steps.Expire q) = Some q
pair_of (steps.Wait q) = Some q
pair_of (steps.Bounce q) = Some q

-- the verb makes, connects or posts to that queue pair
abbrev pub IsVerbOfPair : Verb → ObjName → Type 0
IsVerbOfPair (verbs.MakeQp name domain send_cq recv_cq send_depth recv_depth) o = name ≡ o
IsVerbOfPair (verbs.Connect one two terms) o = (one ≡ o) ⊎ (two ≡ o)
IsVerbOfPair (verbs.PostSend name request) o = name ≡ o
IsVerbOfPair (verbs.PostRecv name receive) o = name ≡ o
IsVerbOfPair other o = ⊥

-- the step may change that queue pair: it is a verb of it or a step of its own; or a message of its partner, which uses its receives, or
-- its own refusal of the partner's request, by which it fails
abbrev pub MayChangePair : Machine → MachineStep → ObjName → Type 0
MayChangePair m (steps.Verb verb given) o = IsVerbOfPair verb o
MayChangePair m (steps.Run q n) o = (q ≡ o) ⊎ ((end_of m q).peer ≡ o)
MayChangePair m (steps.Refuse q why) o = (q ≡ o) ⊎ ((end_of m q).peer ≡ o)
MayChangePair m other o = pair_of other ≡ Some o

-- the queue pair p puts its completions into that queue
pub record CompletesInto (m : Machine) (p o : ObjName) : Type 0 where
  pub context : p.context ≡ o.context
  pub queue : ((end_of m p).send_queue ≡ o.name) ⊎ ((end_of m p).receive_queue ≡ o.name)

-- the verb makes or polls that completion queue
abbrev pub IsVerbOfQueue : MachineStep → ObjName → Type 0
IsVerbOfQueue (steps.Verb (verbs.MakeCq name capacity) given) o = name ≡ o
IsVerbOfQueue (steps.Verb (verbs.Poll name max) given) o = name ≡ o
IsVerbOfQueue other o = ⊥

-- the step may change that completion queue: it is a verb of it, or it may change a queue pair that puts its completions there
abbrev pub MayChangeQueue : Machine → MachineStep → ObjName → Type 0
MayChangeQueue m s o = IsVerbOfQueue s o ⊎ ((p : ObjName) × MayChangePair m s p × CompletesInto m p o)

-- the verb makes or drops that region
abbrev pub MakesOrDrops : MachineStep → ObjName → Type 0
MakesOrDrops (steps.Verb (verbs.MakeRegion name domain base count rights) given) o = name ≡ o
MakesOrDrops (steps.Verb (verbs.DropRegion name) given) o = name ≡ o
MakesOrDrops other o = ⊥

-- the verb makes a domain in that context
abbrev pub MakesDomain : MachineStep → Name → Type 0
MakesDomain (steps.Verb (verbs.MakeDomain name) given) c = name.context ≡ c
MakesDomain other c = ⊥

-- ---- any thing

-- the step may change that thing
abbrev pub MayChange : Machine → MachineStep → Thing → Type 0
MayChange m s (Byte o k) = MayChangeByte m s o k
MayChange m s (Plan o) = MakesOrDrops s o
MayChange m s (Queue o) = MayChangeQueue m s o
MayChange m s (Pair o) = MayChangePair m s o
MayChange m s (Domains c) = MakesDomain s c
