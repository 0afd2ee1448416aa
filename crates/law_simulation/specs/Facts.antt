-- What stays true of each husk, and of each datagram that was ever sent: the network may bring it at any later time.
use Rattle.std.specs.Prelude.{◌≡◌, ℕ, suc, ◌*◌, ◌<◌, ◌≤◌, ◌⊎◌, List, slice_get, Contains, Bool, true, false, if◌then◌else◌, Option, Some, None}
use Rattle.rdma_types.specs.declared.requests.Address.{Address}
use Rattle.rdma_types.specs.declared.answers.RefusalReason.{RefusalReason}
use Rattle.rdma_types.specs.declared.answers.RefusalReason.TheVariants as whys
use Rattle.rdma_types.specs.Kinds.{is_read, kind_of}
use Rattle.rdma_types.specs.Objects.{Posted}
use Rattle.rdma_types.specs.Spans.{first_number, piece_of, request_of}
use Rattle.protocol.specs.Numbers.{wire_number}
use Rattle.protocol.specs.Segments.{packet_at}
use Rattle.protocol.specs.Wire.{Packet, packet_of, wire_of}
use Rattle.protocol.specs.State.{Flight, Link, HuskEntry}
use Rattle.packetless_machine.specs.declared.reply.Reply.TheVariants.{OldValue, Denied}
use Rattle.packetless_machine.specs.Machine.{End, posted_at}
use Rattle.packetless_machine.specs.Numbers.{due}
use Rattle.law_simulation.specs.Packets.{Class, class_of, IsRequest, IsReadResponse, IsAtomicResponse, IsAck, IsSequenceNak, IsRefusal, IsReceiverNotReady, IsStopped, IsResume, IsResumeAck}
use Rattle.law_simulation.specs.Views.{Net, Side, peer}
use Rattle.law_simulation.specs.Joined.{lands_untold_before}

-- ---- husks

-- the end x is in Rts and carried, with that count of moves
abbrev pub IsCarriedWith : Side → ℕ → Type 0
IsCarriedWith x count = (x.carried ≡ true) × (x.rts ≡ true) × (count ≡ x.link.moving.own)

-- an entry of a husk is of the end x, which the machine has as e with the peer p
pub record IsLeft (x : Side) (e p : End) (h : HuskEntry) : Type 0 where
  -- the end is connected, and the numbers are those of it and of its peer
  pub connected : x.connected ≡ true
  pub number : e.number ≡ h.number
  pub peer : p.number ≡ h.peer
  -- the count is below the end's, or the end is in Rts and carried with it
  pub count : (h.moves < x.link.moving.own) ⊎ IsCarriedWith x h.moves

-- that of the end with the entry's number
abbrev pub HuskFact : Net → HuskEntry → Type 0
HuskFact n h = IsLeft (n.side (n.name h.number)) (n.end (n.name h.number)) (n.end (peer n (n.name h.number))) h

-- ---- datagrams: q is the machine's end whose requests are spoken of

-- the request that has number n
abbrev pub request_for : End → ℕ → Posted
request_for q n = posted_at q.posted (request_of q.posted q.mtu n)

-- one past the numbers of the packet with number n: a READ request has all that are left of its Read
abbrev pub past_packet : End → ℕ → ℕ
past_packet q n = if is_read (kind_of (request_for q n)) then first_number q.posted q.mtu (suc (request_of q.posted q.mtu n)) else suc n

-- request n of q, where l is the link of its end
pub record IsRequestOf (l : Link) (q : End) (n : ℕ) (d : Packet) : Type 0 where
  -- it is the packet of that number
  pub packet : packet_at q.posted 0 l.terms l.peer n ≡ Some d
  -- all its numbers are below `top`
  pub below_top : past_packet q n ≤ l.sender.top
  -- where it is fenced, each Read and atomic before it is told
  pub fenced : (request_for q n).request.fence ≡ true → lands_untold_before q (request_of q.posted q.mtu n) ≡ false

-- READ response n to q
pub record IsOffered (q : End) (n : ℕ) (bytes : List ℕ) : Type 0 where
  -- its Read had its turn
  pub acted : request_of q.posted q.mtu n < q.acted
  pub is_read : is_read (kind_of (request_for q n)) ≡ true
  -- its bytes are an offer for that piece
  pub offer : Contains q.offers (record { request = request_of q.posted q.mtu n; offset = piece_of q.posted q.mtu n * q.mtu; bytes = bytes })

-- the answer to the atomic n of q is that old value
pub record IsOld (q : End) (n : ℕ) (old : Option ℕ) : Type 0 where
  pub value : ℕ
  pub says : old ≡ Some value
  pub first : n ≡ first_number q.posted q.mtu (request_of q.posted q.mtu n)
  pub answer : slice_get q.answers (request_of q.posted q.mtu n) ≡ Some (OldValue value)

-- a refusal is an access error, or another
unfoldable pub is_access_denied : RefusalReason → Bool
is_access_denied whys.Access = true
is_access_denied whys.Invalid = false
is_access_denied whys.Length = false

-- request n of q is due, and refused for such a reason
pub record IsRefused (q : End) (n : ℕ) (is_access : Bool) : Type 0 where
  pub due : n ≡ due q
  pub why : RefusalReason
  pub answer : slice_get q.answers q.acted ≡ Some (Denied why)
  pub matches : is_access_denied why ≡ is_access

-- request n of q met no receive
pub record IsDry (q : End) (n : ℕ) : Type 0 where
  pub due : n ≤ due q
  pub dry : Contains q.dry (request_of q.posted q.mtu n)

-- a response to the end with the link l has the wire number of n
abbrev pub IsNumbered : Link → ℕ → Packet → Type 0
IsNumbered l n d = d.psn ≡ wire_number l.terms.own_start n

-- a datagram with true number n: a request of x, which is for p, or a response to p; the machine has p as e and x as g
abbrev pub NumberedFact : Side → Side → End → End → ℕ → Packet → Class → Type 0
NumberedFact p x e g n d IsRequest = IsRequestOf x.link g n d
NumberedFact p x e g n d IsReadResponse = IsNumbered p.link n d × IsOffered e n d.payload
NumberedFact p x e g n d IsAtomicResponse = IsNumbered p.link n d × IsOld e n d.old
NumberedFact p x e g n d IsAck = IsNumbered p.link n d × (n < due e)
NumberedFact p x e g n d IsSequenceNak = IsNumbered p.link n d × (n ≤ due e)
NumberedFact p x e g n d (IsRefusal is_access) = IsNumbered p.link n d × IsRefused e n is_access
NumberedFact p x e g n d IsReceiverNotReady = IsNumbered p.link n d × IsDry e n
NumberedFact p x e g n d other = ⊥

-- a message of moving from x: NAK_STOPPED and RESUME speak of x, RESUME_ACK answers a RESUME of the end that it is for
abbrev pub MoveFact : Side → Class → Type 0
MoveFact x (IsStopped count) = (count < x.link.moving.own) ⊎ IsCarriedWith x count
MoveFact x (IsResume body) =
    (body.count ≤ x.link.moving.own)
    × ((a : Address) → x.rts ≡ true → x.place ≡ Some a → body.count ≡ x.link.moving.own → body.address ≡ a)
MoveFact x (IsResumeAck body) = body.count ≤ x.link.moving.recorded
MoveFact x other = ⊥

-- messages of moving have no true number, and all others have one
abbrev pub ClassFact : Side → Side → End → End → Option ℕ → Packet → Type 0
ClassFact p x e g None d = MoveFact x (class_of d)
ClassFact p x e g (Some n) d = NumberedFact p x e g n d (class_of d)

-- a datagram of the end x for its peer p
pub record PacketFact (p x : Side) (e g : End) (number : Option ℕ) (bytes : List ℕ) (d : Packet) : Type 0 where
  -- it is in the one spelling
  pub spelled : bytes ≡ wire_of d
  -- p is connected, and has the number that it is for
  pub connected : p.connected ≡ true
  pub dest : e.number ≡ d.dest
  -- what it says is true
  pub fact : ClassFact p x e g number d

-- bytes that were sent are a datagram for the end that has its number
abbrev pub BytesFact : Net → Option ℕ → List ℕ → Option Packet → Type 0
BytesFact n number bytes None = ⊥
BytesFact n number bytes (Some d) =
    PacketFact (n.side (n.name d.dest)) (n.side (peer n (n.name d.dest))) (n.end (n.name d.dest)) (n.end (peer n (n.name d.dest))) number bytes d

-- the fact of a datagram that was sent
abbrev pub Fact : Net → Flight → Type 0
Fact n f = BytesFact n f.number f.bytes (packet_of f.bytes)
