-- Which inner steps of the machine an event of a world may cause.
use Rattle.std.specs.Prelude.{◌≡◌, ℕ, zero, suc, ◌+◌, ◌-◌, ◌*◌, ◌≤◌, ◌⊎◌, min, max, List, [], ◌∷◌, ◌++◌, length, slice_get, Bool, true, false, nat_lt, ◌==◌, ◌&&◌, if◌then◌else◌, Option, Some, None}
use Rattle.rdma_types.specs.declared.names.ObjName.{ObjName}
use Rattle.rdma_types.specs.declared.requests.Address.{Address}
use Rattle.rdma_types.specs.declared.answers.Answer.{Answer}
use Rattle.rdma_types.specs.declared.answers.Answer.TheVariants as answers
use Rattle.rdma_types.specs.declared.answers.RefusalReason.TheVariants as whys
use Rattle.rdma_types.specs.Kinds.{is_read, kind_of, size_of}
use Rattle.rdma_types.specs.Spans.{piece_of, request_of, span_of}
use Rattle.rdma_types.specs.Memory.{RemoteRead}
use Rattle.protocol.specs.declared.events.Event.{Event}
use Rattle.protocol.specs.declared.events.Event.TheVariants as events
use Rattle.protocol.specs.declared.events.WorldEvent.{WorldEvent}
use Rattle.protocol.specs.declared.events.WorldEvent.TheVariants as world_events
use Rattle.protocol.specs.Wire.{Packet, packet_of}
use Rattle.protocol.specs.State.{World, Flight}
use Rattle.protocol.specs.EndWords.{is_paused}
use Rattle.protocol.specs.WorldStep.{same_address}
use Rattle.packetless_machine.specs.declared.steps.MachineStep.{MachineStep}
use Rattle.packetless_machine.specs.declared.steps.MachineStep.TheVariants as steps
use Rattle.packetless_machine.specs.Machine as machine
use Rattle.packetless_machine.specs.Machine.{Machine, posted_at}
use Rattle.packetless_machine.specs.Numbers.{due, oldest, barrier}
use Rattle.packetless_machine.specs.Steps.{may_run, may_atom, may_read, may_refuse, is_granted_there}
use Rattle.packetless_machine.specs.Legal.{after}
use Rattle.law_simulation.specs.Packets.{Class, class_of, IsRequest, IsReadResponse, IsAtomicResponse, IsAck, IsSequenceNak, IsRefusal, IsReceiverNotReady}
use Rattle.law_simulation.specs.Views.{link_of, in_rts, place_of, name_of}

-- the first fact where the test holds, and else the second
abbrev pub Either : Bool → Type 0 → Type 0 → Type 0
Either true A B = A
Either false A B = B

-- ---- a request of q, of true number n, with these payload bytes

-- one Offer for each response of the Read number i of q, from piece k on; `left` is how many there are
unfoldable pub offers_from : ObjName → machine.End → ℕ → ℕ → ℕ → List MachineStep
offers_from q e i k zero = []
offers_from q e i k (suc left) =
    steps.Offer q i (k * e.mtu) (min e.mtu (size_of (posted_at e.posted i) - k * e.mtu)) ∷ offers_from q e i (suc k) left

-- one Offer for each response of the Read number i of q, from piece k on
unfoldable pub offers_of : ObjName → machine.End → ℕ → ℕ → List MachineStep
offers_of q e i k = offers_from q e i k (span_of (posted_at e.posted i) e.mtu - k)

-- the expected request: exactly one of Run, Atom and ReadTurn where it is enabled, else Refuse where it is, else Dry;
-- after a ReadTurn one Offer for each response
unfoldable pub due_steps : Machine → ObjName → ℕ → List MachineStep
due_steps m q bytes =
    if may_run m q bytes
    then steps.Run q bytes ∷ []
    else if may_atom m q
    then steps.Atom q ∷ []
    else if may_read m q
    then steps.ReadTurn q ∷ offers_of q (machine.end_of m q) (machine.end_of m q).acted 0
    else if may_refuse m q whys.Invalid
    then steps.Refuse q whys.Invalid ∷ []
    else if may_refuse m q whys.Access
    then steps.Refuse q whys.Access ∷ []
    else if may_refuse m q whys.Length
    then steps.Refuse q whys.Length ∷ []
    else steps.Dry q ∷ []

-- the rest of the Read number i of q, from piece k on, is granted now
unfoldable pub is_rest_granted : Machine → ObjName → ℕ → ℕ → Bool
is_rest_granted m q i k =
    is_granted_there m q (posted_at (machine.end_of m q).posted i).request.shape.rkey
    ((posted_at (machine.end_of m q).posted i).request.shape.remote + k * (machine.end_of m q).mtu)
    (size_of (posted_at (machine.end_of m q).posted i) - k * (machine.end_of m q).mtu) RemoteRead

-- a repeated READ request: one Offer for each response, where the rest asked for is granted now
unfoldable pub repeat_steps : Machine → ObjName → ℕ → ℕ → List MachineStep
repeat_steps m q i k =
    if is_read (kind_of (posted_at (machine.end_of m q).posted i)) && is_rest_granted m q i k
    then offers_of q (machine.end_of m q) i k
    else []

-- request n of q arrives
unfoldable pub request_steps : Machine → ObjName → ℕ → ℕ → List MachineStep
request_steps m q n bytes =
    if n == due (machine.end_of m q)
    then due_steps m q bytes
    else if nat_lt n (due (machine.end_of m q))
    then repeat_steps m q (request_of (machine.end_of m q).posted (machine.end_of m q).mtu n) (piece_of (machine.end_of m q).posted (machine.end_of m q).mtu n)
    else []

-- ---- responses to q

-- nothing but Known and Tell of q
abbrev pub OnlyTells : ObjName → List MachineStep → Type 0
OnlyTells q [] = Unit {0}
OnlyTells q (steps.Known o bytes ∷ ss) = (o ≡ q) × OnlyTells q ss
OnlyTells q (steps.Tell o ∷ ss) = (o ≡ q) × OnlyTells q ss
OnlyTells q (other ∷ ss) = ⊥

-- the owner of q learns of no number from `limit` on
pub record TellsUpTo (m : Machine) (q : ObjName) (limit : ℕ) (ss : List MachineStep) : Type 0 where
  pub only : OnlyTells q ss
  pub limited : oldest (machine.end_of (after m ss) q) ≤ max (oldest (machine.end_of m q)) limit

-- what the owner learns, and then at most one more step
pub record TellsThenMaybe (m : Machine) (q : ObjName) (limit : ℕ) (step : MachineStep) (ss : List MachineStep) : Type 0 where
  pub tells : List MachineStep
  pub last : List MachineStep
  pub are : ss ≡ tells ++ last
  pub told : TellsUpTo m q limit tells
  pub at_most : (last ≡ []) ⊎ (last ≡ step ∷ [])

-- the request that number n belongs to
abbrev pub request_at : machine.End → ℕ → ℕ
request_at e n = request_of e.posted e.mtu n

-- which of its pieces n is
abbrev pub piece_at : machine.End → ℕ → ℕ
piece_at e n = piece_of e.posted e.mtu n

-- the bytes of READ response n land, where there are any
unfoldable pub land_steps : ObjName → ℕ → List ℕ → List MachineStep
land_steps q o [] = []
land_steps q o (b ∷ bs) = steps.Land q o ∷ []

-- .. and after its last piece the Read is told
unfoldable pub tell_steps : ObjName → machine.End → ℕ → List MachineStep
tell_steps q e n = if suc (piece_at e n) == span_of (posted_at e.posted (request_at e n)) e.mtu then steps.Tell q ∷ [] else []

-- READ response n of q lands: what the owner learns before n, one Land, and the Tell after the last piece
pub record Lands (m : Machine) (q : ObjName) (n : ℕ) (bytes : List ℕ) (ss : List MachineStep) : Type 0 where
  pub tells : List MachineStep
  pub offer : ℕ  -- the place of its offer
  pub are : ss ≡ tells ++ (land_steps q offer bytes ++ tell_steps q (machine.end_of m q) n)
  pub told : TellsUpTo m q n tells
  pub offered : 1 ≤ length bytes → slice_get (machine.end_of m q).offers offer ≡ Some (record {
    request = request_at (machine.end_of m q) n;
    offset = piece_at (machine.end_of m q) n * (machine.end_of m q).mtu;
    bytes = bytes;
  })

-- an old value lands: what the owner learns before n, and the Tell of that atomic
pub record LandsOld (m : Machine) (q : ObjName) (n : ℕ) (ss : List MachineStep) : Type 0 where
  pub tells : List MachineStep
  pub are : ss ≡ tells ++ steps.Tell q ∷ []
  pub told : TellsUpTo m q n tells

-- the lesser of a number and the barrier of q
abbrev pub before_barrier : Machine → ObjName → ℕ → ℕ
before_barrier m q n = min n (barrier (machine.end_of m q))

-- a response with number n arrives at q, which is in Rts
abbrev pub CarriesResponse : Machine → ObjName → ℕ → List ℕ → Class → List MachineStep → Type 0
CarriesResponse m q n bytes IsAck ss = TellsUpTo m q (before_barrier m q (suc n)) ss
CarriesResponse m q n bytes IsReadResponse ss = (ss ≡ []) ⊎ Lands m q n bytes ss
CarriesResponse m q n bytes IsAtomicResponse ss = (ss ≡ []) ⊎ LandsOld m q n ss
CarriesResponse m q n bytes IsSequenceNak ss = TellsUpTo m q (before_barrier m q n) ss
CarriesResponse m q n bytes (IsRefusal is_access) ss = TellsThenMaybe m q (before_barrier m q n) (steps.Bounce q) ss
CarriesResponse m q n bytes IsReceiverNotReady ss = TellsThenMaybe m q (before_barrier m q n) (steps.Wait q) ss
CarriesResponse m q n bytes other ss = ss ≡ []

-- ---- any datagram, at the end p, which is live where it arrives and in Rts

-- a datagram with number n arrives at p: a Paused end executes nothing
abbrev pub CarriesClass : World → Machine → ObjName → ℕ → List ℕ → Class → List MachineStep → Type 0
CarriesClass w m p n bytes IsRequest ss =
    ss ≡ (if is_paused (link_of w p).moving.phase then [] else request_steps m (machine.end_of m p).peer n (length bytes))
CarriesClass w m p n bytes other ss = CarriesResponse m p n bytes other ss

-- messages of moving have no number, and carry nothing
abbrev pub CarriesNumbered : World → Machine → ObjName → Option ℕ → List ℕ → Class → List MachineStep → Type 0
CarriesNumbered w m p None bytes c ss = ss ≡ []
CarriesNumbered w m p (Some n) bytes c ss = CarriesClass w m p n bytes c ss

-- a place is at an address
unfoldable pub is_at : Option Address → Address → Bool
is_at None a = false
is_at (Some b) a = same_address b a

-- the end that a datagram is for lives where it arrives, and is in Rts
abbrev pub finds_end : World → Machine → Flight → Packet → Bool
finds_end w m f d = in_rts w (name_of m d.dest) && is_at (place_of w (name_of m d.dest).context) f.to

-- a datagram, or bytes that are none
abbrev pub CarriesPacket : World → Machine → Flight → Option Packet → List MachineStep → Type 0
CarriesPacket w m f None ss = ss ≡ []
CarriesPacket w m f (Some d) ss =
    Either (finds_end w m f d) (CarriesNumbered w m (name_of m d.dest) f.number d.payload (class_of d) ss) (ss ≡ [])

-- the inner steps at the arrival of a datagram
abbrev pub Carries : World → Machine → Option Flight → List MachineStep → Type 0
Carries w m None ss = ss ≡ []
Carries w m (Some f) ss = CarriesPacket w m f (packet_of f.bytes) ss

-- ---- an event and its answer

-- the datagram was taken, which is what a delivery answers that is not `gone`, `lost` or `aged`
unfoldable pub is_taken : Answer → Bool
is_taken (answers.Took took first count) = true
is_taken other = false

-- the expiry was counted
unfoldable pub is_counted : Answer → Bool
is_counted (answers.Expired n) = true
is_counted answers.Spent = true
is_counted other = false

-- one Expire where the expiry was counted
unfoldable pub expire_steps : Answer → ObjName → List MachineStep
expire_steps a q = if is_counted a then steps.Expire q ∷ [] else []

-- the steps of a device's event
abbrev pub CarriesAt : Event → Answer → List MachineStep → Type 0
CarriesAt (events.Expire q) a ss = ss ≡ expire_steps a q
CarriesAt other a ss = ss ≡ []

-- the inner steps that an event may cause, where it was answered so
abbrev pub Allows : World → Machine → WorldEvent → Answer → List MachineStep → Type 0
Allows w m (world_events.Deliver k) a ss = Either (is_taken a) (Carries w m (slice_get w.sent (k - 1)) ss) (ss ≡ [])
Allows w m (world_events.At event) a ss = CarriesAt event a ss
Allows w m other a ss = ss ≡ []
