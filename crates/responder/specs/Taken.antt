-- What the calls of a responder give, in the words of the rows: the place that a packet is granted, what was taken, and
-- what regions keep.
use Rattle.std.specs.Prelude.{ℕ, ◌≡◌, ◌≢◌, ◌+◌, ◌<◌, Bool, true, false, List, [], length, Option, Some, None, option_map}
use Rattle.rdma_types.specs.Limits.{number_limit}
use Rattle.rdma_types.specs.Objects.{Region}
use Rattle.rdma_types.specs.declared.names.Name.{Name}
use Rattle.rdma_types.specs.declared.requests.Receive.{Receive}
use Rattle.page_pool.specs.Pool.{Pool, free_pages}
use Rattle.memory_keys.specs.declared.RegisteredRegion.{RegisteredRegion}
use Rattle.memory_keys.specs.declared.RegionRange.{RegionRange}
use Rattle.memory_keys.specs.Regions.{AreHeld, IsSpot, KeepsOthers, place_in, regions_of}
use Rattle.end_queues.specs.Completions as completions
use Rattle.end_queues.specs.Postings as work
use Rattle.protocol.specs.declared.wire.AtomicEth.{AtomicEth}
use Rattle.protocol.specs.declared.wire.Reth.{Reth}
use Rattle.protocol.specs.Numbers.{wire_number}
use Rattle.protocol.specs.Responder as words
use Rattle.protocol.specs.State.{Progress, NoMessage, InSend, InWrite, Receiver, no_end}
use Rattle.protocol.specs.Wire.{Packet}
use Rattle.rdma_types.specs.Spans.{pieces}
use Rattle.responder.specs.declared.answers.Reply.{Reply}
use Rattle.responder.specs.declared.answers.Reply.TheVariants.{Ack, Acted, AtomicOld, DupAck, NotReady, ReadBytes, Refused, SequenceNak, Silent}
use Rattle.responder.specs.Receiving.{Receiving}
use Rattle.responder.specs.Taking.{Taking, context_of, spot_of, with_done}

-- a spot of no bytes
abbrev pub no_spot : RegionRange
no_spot = record { region = 0; off = 0; length = 0 }

-- the place in a region of what an AtomicETH or else a RETH names
abbrev pub spot_named : Option AtomicEth → Option Reth → Region → RegionRange
spot_named (Some h) reth r = place_in h.address 8 r
spot_named None (Some h) r = spot_of r h
spot_named None None r = no_spot

-- where a WRITE goes on, and how many bytes are there: at its message in progress, or else where its RETH begins
abbrev pub place_next : RegionRange → Option Reth → Progress → RegionRange × ℕ
place_next spot (Some h) p = (spot, 0)
place_next spot None NoMessage = (spot, 0)
place_next spot None (InSend done receive) = (spot, 0)
place_next spot None (InWrite region off count done) = (record { region = region; off = off; length = count }, done)

-- the answer hands out bytes
abbrev pub is_bytes : Reply → Bool
is_bytes (ReadBytes spot first count) = true
is_bytes Acted = false
is_bytes Ack = false
is_bytes (AtomicOld number old) = false
is_bytes SequenceNak = false
is_bytes NotReady = false
is_bytes (Refused w) = false
is_bytes DupAck = false
is_bytes (Silent w) = false

-- the bytes that an answer hands out lie in a region, and have a response for each piece
abbrev pub IsRead : List RegisteredRegion → ℕ → Reply → Type 0
IsRead held mtu (ReadBytes spot first count) = IsSpot held spot × (count ≡ pieces spot.length mtu)
IsRead held mtu Acted = Unit {0}
IsRead held mtu Ack = Unit {0}
IsRead held mtu (AtomicOld number old) = Unit {0}
IsRead held mtu SequenceNak = Unit {0}
IsRead held mtu NotReady = Unit {0}
IsRead held mtu (Refused w) = Unit {0}
IsRead held mtu DupAck = Unit {0}
IsRead held mtu (Silent w) = Unit {0}

-- nothing is different after it
pub record IsAsBefore (r : Receiver) (bytes : List Region) (receives : List Receive) (t : Taking) : Type 0 where
  pub receiver : t.receiver ≡ r
  pub regions : t.regions ≡ bytes
  pub unused : t.unused ≡ receives
  pub done : t.done ≡ []

-- the expected number and the count of finished messages are as they were
pub record KeepsNumbers (r : Receiver) (t : Taking) : Type 0 where
  pub expected : t.receiver.expected ≡ r.expected
  pub msn : t.receiver.msn ≡ r.msn

-- what an answer leaves: all, for a repeat and where nothing acts; and the numbers, for a NAK
abbrev pub Leaves : Receiver → List Region → List Receive → Taking → Reply → Type 0
Leaves r bytes receives t Acted = Unit {0}
Leaves r bytes receives t Ack = Unit {0}
Leaves r bytes receives t (ReadBytes spot first count) = first ≢ r.expected → IsAsBefore r bytes receives t
Leaves r bytes receives t (AtomicOld number old) = number ≢ r.expected → IsAsBefore r bytes receives t
Leaves r bytes receives t SequenceNak = KeepsNumbers r t
Leaves r bytes receives t NotReady = IsAsBefore r bytes receives t
Leaves r bytes receives t (Refused w) = KeepsNumbers r t
Leaves r bytes receives t DupAck = IsAsBefore r bytes receives t
Leaves r bytes receives t (Silent w) = IsAsBefore r bytes receives t

-- the region that a packet's request is granted by these regions
abbrev pub target_in : List Region → Name → Packet → Option Region
target_in regions domain d = words.target (context_of regions) (record no_end { domain = domain }) d

-- the place that a packet's request is granted by these regions
abbrev pub place_granted : List Region → Name → Packet → Option RegionRange
place_granted regions domain d = option_map (spot_named d.atomic d.reth) (target_in regions domain d)

-- the spot is the place that the packet's request is granted, whatever bytes lie there
pub record IsTarget (held : List RegisteredRegion) (domain : Name) (d : Packet) (spot : RegionRange) : Type 0 where
  pub granted : (pool : Pool) → Some spot ≡ place_granted (regions_of pool held) domain d
  pub inside : IsSpot held spot

-- the regions are those that there were, but for their bytes, and nothing else is different in the pool
pub record KeepsRegions (old new : Pool) (before after : List RegisteredRegion) : Type 0 where
  pub same : after ≡ before
  pub held : AreHeld new after
  pub others : KeepsOthers old new before
  pub free : free_pages new ≡ free_pages old

-- the answer is that of a row, and so is all that is different after it
pub record IsTaken (t : Taking) (answer : Reply) (old new : Receiving) (bytes : List Region) (recvs after : work.Queue Receive) (cq more : completions.Queue) : Type 0 where
  pub reply : answer ≡ t.reply
  pub receiver : new ≡ record old { receiver = t.receiver }
  pub regions : bytes ≡ t.regions
  pub unused : after ≡ record recvs { items = t.unused }
  pub done : more ≡ with_done cq t.done

-- the packet of a WRITE in progress that is expected next and not its last: so many bytes are at its place, and some are
-- left after it
pub record IsMiddle (v : Receiving) (d : Packet) (spot : RegionRange) (done : ℕ) : Type 0 where
  pub opcode : d.opcode ≡ 0x07
  pub psn : d.psn ≡ wire_number v.terms.peer_start v.receiver.expected
  pub progress : v.receiver.progress ≡ InWrite spot.region spot.off spot.length done
  pub sized : length d.payload ≡ v.terms.mtu
  pub left : done + length d.payload < spot.length
  pub limit : v.receiver.expected + 1 < number_limit
