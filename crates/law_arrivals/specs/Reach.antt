-- How far bytes that arrive reach, whatever they are and wherever they come from: to the end that they name, to its two completion queues,
-- and to bytes that it lets a packet of that kind change (IBA 9.7 and 10.6; what is safe is this project's choice).
use Rattle.std.specs.Prelude.{ℕ, ◌≡◌, ◌≢◌, ◌⊎◌, ◌++◌, Bool, true, false, List, [], ◌∷◌, Option, Some, None, is_some, nat_le, nat_lt, slice_get, if◌then◌else◌, ◌==◌, ◌&&◌}
use Rattle.rdma_types.specs.declared.names.Name.{Name}
use Rattle.rdma_types.specs.declared.requests.Receive.{Receive}
use Rattle.rdma_types.specs.Lists.{some}
use Rattle.rdma_types.specs.Objects.{Region}
use Rattle.protocol.specs.Changes.{is_atomic_byte, is_message_byte, is_receive_byte, is_reth_byte}
use Rattle.protocol.specs.DeviceStep.{Found, found_in}
use Rattle.protocol.specs.EndWords.{in_use_by, linked, with_receiver}
use Rattle.protocol.specs.Memory.{region_of_key}
use Rattle.protocol.specs.Moves.{Control, control_of}
use Rattle.protocol.specs.Numbers.{unwrap_near}
use Rattle.protocol.specs.Responder.{is_read_request, is_send, is_write}
use Rattle.protocol.specs.State.{Context, Device, End, Link, Receiver, context_at, end_at, queue_at}
use Rattle.protocol.specs.Wire.{Packet, is_request, packet_of}
use Rattle.law_arrivals.specs.Touched.{frame, is_landing_byte}

-- ---- bytes, by the kind of packet

-- what a request may change: a SEND the receive in use or the oldest unused one; a WRITE what its RETH is granted, and one without a
-- RETH the range of the WRITE in progress; a READ nothing; an atomic the word that it is granted
abbrev pub may_write : Name → Receiver → List Receive → Packet → Region → ℕ → Bool
may_write domain receiver unused d r k =
    if is_send d.opcode
    then is_receive_byte r k (in_use_by receiver.progress ++ unused)
    else if is_write d.opcode
    then (if is_some d.reth then is_reth_byte domain r k d.reth else is_message_byte r k receiver.progress)
    else if is_read_request d.opcode then false else is_atomic_byte domain r k d.atomic

-- a request what it may write, and a response the local places of untold Reads and atomics
abbrev pub may_serve : End → Link → Packet → Region → ℕ → Bool
may_serve e l d r k = if is_request d.opcode then may_write e.domain l.receiver e.unused d r k else some (is_landing_byte r k) l.sender.untold

-- a message of moving changes no byte
abbrev pub may_change_by : End → Link → Packet → Option Control → Region → ℕ → Bool
may_change_by e l d None r k = may_serve e l d r k
may_change_by e l d (Some m) r k = false

-- at a connected end
abbrev pub may_reach : End → Link → Packet → Region → ℕ → Bool
may_reach e l d r k = may_change_by e l d (control_of d) r k

-- ---- the window of packet numbers

-- a number is that one
abbrev pub is_number : Option ℕ → ℕ → Bool
is_number None n = false
is_number (Some m) n = m == n

-- a number is one of those from `start` to below `stop`
abbrev pub is_between : Option ℕ → ℕ → ℕ → Bool
is_between None start stop = false
is_between (Some n) start stop = nat_le start n && nat_lt n stop

-- the number of a packet is in the window: that of a request is the one that is expected, and that of a response was sent and is not
-- acknowledged
abbrev pub is_in_window : Link → Packet → Bool
is_in_window l d =
    if is_request d.opcode
    then is_number (unwrap_near l.terms.peer_start d.psn l.receiver.expected) l.receiver.expected
    else is_between (unwrap_near l.terms.own_start d.psn l.sender.una) l.sender.una l.sender.top

-- the context is as it was, but that the end may note that it has answered with a NAK of a sequence error
abbrev pub OnlyNotes : End → Link → Context → Context → Type 0
OnlyNotes e l old new = (new ≡ old) ⊎ (new ≡ linked old e (with_receiver l (record l.receiver { nak_sent = true })))

-- ---- the end that is named, and nothing else

-- in the context of the end e: bytes that may not change, other ends with all their work, and the completion queues of others are as they
-- were, and so is all that has a name, a number, a key or a right
pub record ReachesIn (may : Region → ℕ → Bool) (e : End) (old new : Context) : Type 0 where
  pub bytes : (lkey k : ℕ) → may (region_of_key old lkey) k ≡ false → slice_get (region_of_key new lkey).bytes k ≡ slice_get (region_of_key old lkey).bytes k
  pub other_ends : (n : Name) → n ≢ e.name → end_at new n ≡ end_at old n
  pub other_queues : (n : Name) → n ≢ e.send_cq → n ≢ e.recv_cq → queue_at new n ≡ queue_at old n
  pub frames : frame new ≡ frame old

-- on the device: other contexts, husks and numbers are as they were
pub record ReachesEnd (f : Found) (p : Packet) (old new : Device) : Type 0 where
  pub there : context_at old f.context.name ≡ f.context
  pub context : ReachesIn (may_reach f.end f.link p) f.end f.context (context_at new f.context.name)
  -- outside the window a packet that is no message of moving changes nothing but that note
  pub outside : control_of p ≡ None → is_in_window f.link p ≡ false → OnlyNotes f.end f.link f.context (context_at new f.context.name)
  pub other_contexts : (n : Name) → n ≢ f.context.name → context_at new n ≡ context_at old n
  pub husks : new.husks ≡ old.husks
  pub id : new.id ≡ old.id
  pub address : new.address ≡ old.address
  pub qp_count : new.qp_count ≡ old.qp_count
  pub key_count : new.key_count ≡ old.key_count

-- the first of these ends is reached; where there is none, nothing changes
abbrev pub ReachesFirst : List Found → Packet → Device → Device → Type 0
ReachesFirst [] p old new = new ≡ old
ReachesFirst (f ∷ fs) p old new = ReachesEnd f p old new

-- bytes that are no datagram change nothing; a datagram reaches the connected end with the number that it names
abbrev pub ReachesBy : Option Packet → Device → Device → Type 0
ReachesBy None old new = new ≡ old
ReachesBy (Some p) old new = ReachesFirst (found_in p.dest old.contexts) p old new

-- these bytes, where they arrive
abbrev pub Reaches : List ℕ → Device → Device → Type 0
Reaches bytes old new = ReachesBy (packet_of bytes) old new
