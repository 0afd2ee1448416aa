-- What a request does to a responder and what it works on: the answer, and all that is different after it. One row of the
-- protocol's tables is one definition here, by the protocol's own tests.
use Rattle.std.specs.Prelude.{ℕ, ◌+◌, ◌-◌, ◌==◌, ◌||◌, ◌&&◌, Bool, true, List, [], ◌∷◌, ◌++◌, length, drop, Option, Some, None, is_some, nat_lt, nat_le, if◌then◌else◌}
use Rattle.rdma_types.specs.declared.answers.DropReason.TheVariants as why
use Rattle.rdma_types.specs.declared.answers.RefusalReason.TheVariants as refused
use Rattle.rdma_types.specs.declared.names.Name.{Name}
use Rattle.rdma_types.specs.declared.requests.Completion.{Completion}
use Rattle.rdma_types.specs.declared.requests.Receive.{Receive}
use Rattle.rdma_types.specs.declared.requests.Terms.{Terms}
use Rattle.rdma_types.specs.declared.requests.WcKind.TheVariants as wc
use Rattle.rdma_types.specs.declared.requests.WcStatus.TheVariants as status
use Rattle.rdma_types.specs.Limits.{number_limit}
use Rattle.rdma_types.specs.Lists.{first_that}
use Rattle.rdma_types.specs.Memory.{RemoteRead, word_bytes}
use Rattle.rdma_types.specs.Objects.{Region, no_region}
use Rattle.rdma_types.specs.Spans.{pieces}
use Rattle.memory_keys.specs.declared.RegionRange.{RegionRange}
use Rattle.end_queues.specs.Completions.{Queue}
use Rattle.protocol.specs.declared.images.KeptReply.{KeptReply}
use Rattle.protocol.specs.declared.wire.AtomicEth.{AtomicEth}
use Rattle.protocol.specs.declared.wire.Reth.{Reth}
use Rattle.protocol.specs.EndWords.{done_receive, failed_receive}
use Rattle.protocol.specs.Memory.{landed, word_at, written}
use Rattle.protocol.specs.Numbers.{unwrap_near}
use Rattle.protocol.specs.Responder.{Place, atomic_value, bytes_before, executed, finishes, front, is_invalid, is_not_ready, is_read_request, is_send, is_too_long, is_write, keeping, part_of, place_of, read_grant, receive_of, span_of_packet, target, unused_after}
use Rattle.protocol.specs.State.{Context, End, InSend, InWrite, Link, NoMessage, Receiver, no_context, no_end, no_link}
use Rattle.protocol.specs.Wire.{Packet}
use Rattle.responder.specs.declared.answers.Reply.{Reply}
use Rattle.responder.specs.declared.answers.Reply.TheVariants.{Ack, Acted, AtomicOld, DupAck, NotReady, ReadBytes, Refused, SequenceNak, Silent}
use Rattle.responder.specs.Receiving.{Receiving, idled}

-- what a responder works on: its terms and itself, its end's domain, number and unused receives, and the regions
pub record Around : Type 0 where
  pub terms : Terms
  pub domain : Name
  pub qp : ℕ
  pub receiver : Receiver
  pub regions : List Region
  pub unused : List Receive

-- the answer, and what is there after it: the responder, the regions, the unused receives, and what is completed
pub record Taking : Type 0 where
  pub reply : Reply
  pub receiver : Receiver
  pub regions : List Region
  pub unused : List Receive
  pub done : List Completion

-- ---- the protocol's words, on these parts alone

-- a link of these terms and this responder
abbrev pub link_of : Around → Link
link_of a = record no_link { terms = a.terms; receiver = a.receiver }

-- a link of a responder as its callers see it
abbrev pub link_with : Receiving → Link
link_with v = record no_link { terms = v.terms; receiver = v.receiver }

-- what a responder works on, beside itself
abbrev pub around_with : Receiving → Name → ℕ → List Region → List Receive → Around
around_with v domain qp regions unused = record { terms = v.terms; domain = domain; qp = qp; receiver = v.receiver; regions = regions; unused = unused }

-- an end of this domain, this number and these receives
abbrev pub end_of : Around → End
end_of a = record no_end { domain = a.domain; number = a.qp; unused = a.unused }

-- a context of these regions
abbrev pub context_of : List Region → Context
context_of regions = record no_context { regions = regions }

-- the region that a packet's request is granted
abbrev pub target_of : Around → Packet → Option Region
target_of a d = target (context_of a.regions) (end_of a) d

-- the receive that a SEND uses: the one in use, or the oldest unused one
abbrev pub receive_in : Around → Receive
receive_in a = receive_of (end_of a) a.receiver.progress

-- the unused receives once a SEND uses its own
abbrev pub unused_in : Around → List Receive
unused_in a = unused_after (end_of a) a.receiver.progress

-- the responder once the packet is executed: the expected number rises by its span, and a finished message is counted
abbrev pub executed_by : Around → Packet → Receiver
executed_by a d = (executed (link_of a) d).receiver

-- ---- answers that change little

-- nothing changes
abbrev pub answers : Around → Reply → Taking
answers a reply = record { reply = reply; receiver = a.receiver; regions = a.regions; unused = a.unused; done = [] }

-- the responder alone changes
abbrev pub receives : Around → Reply → Receiver → Taking
receives a reply r = record { reply = reply; receiver = r; regions = a.regions; unused = a.unused; done = [] }

-- a repeat that is not answered
abbrev pub no_repeat : Around → Taking
no_repeat a = answers a (Silent why.NoRepeat)

-- ahead of the expected number: one NAK until progress
unfoldable pub ahead_taking : Around → Taking
ahead_taking a = if a.receiver.nak_sent then answers a (Silent why.NakSent) else receives a SequenceNak (record a.receiver { nak_sent = true })

-- ---- before the expected number: repeats

-- the place of a READ or WRITE in its region; no bytes are in no region
abbrev pub spot_of : Region → Reth → RegionRange
spot_of r h = if h.length == 0 then record { region = 0; off = 0; length = 0 } else record { region = r.keys.local; off = h.address - r.base; length = h.length }

-- the responses of a READ: one for each piece
abbrev pub bytes_of : Around → Region → Reth → ℕ → Reply
bytes_of a r h n = ReadBytes (spot_of r h) n (pieces h.length a.terms.mtu)

-- a repeated READ is executed again where it is granted now
abbrev pub reread_taking : Around → Option Region → Reth → ℕ → Taking
reread_taking a None h n = no_repeat a
reread_taking a (Some r) h n = answers a (bytes_of a r h n)

-- .. and where all its numbers are before the expected one
abbrev pub repeated_read_taking : Around → Option Reth → ℕ → Taking
repeated_read_taking a None n = no_repeat a
repeated_read_taking a (Some h) n =
    if nat_le (n + pieces h.length a.terms.mtu) a.receiver.expected
    then reread_taking a (if h.length == 0 then Some no_region else read_grant (context_of a.regions) (end_of a) h RemoteRead) h n
    else no_repeat a

-- a repeated atomic is answered by its kept reply
abbrev pub repeated_atomic_taking : Around → ℕ → Option KeptReply → Taking
repeated_atomic_taking a n None = no_repeat a
repeated_atomic_taking a n (Some k) = answers a (AtomicOld n k.old)

-- a repeat: of a READ, of an atomic, or of a SEND or WRITE, which is acknowledged
unfoldable pub repeated_taking : Around → Packet → ℕ → Taking
repeated_taking a d n =
    if is_read_request d.opcode
    then repeated_read_taking a d.reth n
    else if is_some d.atomic
    then repeated_atomic_taking a n (first_that (λ k. k.number == n) a.receiver.kept)
    else answers a DupAck

-- ---- the expected number: the packet acts

-- an ACK for Last and Only packets and where it is asked for
abbrev pub acted : Packet → Reply
acted d = if finishes (part_of d.opcode) || d.ack_request then Ack else Acted

-- the bytes of a SEND do not fit: its receive completes with status 1, and the end of the message is there
unfoldable pub too_long_taking : Around → Taking
too_long_taking a = record {
  reply = Refused refused.Length;
  receiver = idled a.receiver;
  regions = a.regions;
  unused = unused_in a;
  done = failed_receive a.qp status.LocalLength (receive_in a) ∷ [];
}

-- the regions with the bytes of a SEND in its receive, behind those that were there before
abbrev pub landed_in : List Region → Receive → ℕ → List ℕ → List Region
landed_in regions r before bytes = (landed (context_of regions) r.lkey (r.local + before) bytes).regions

-- the bytes of a SEND go into its receive; its last packet completes it
unfoldable pub send_taking : Around → Packet → Receive → ℕ → Taking
send_taking a d r before = record {
  reply = acted d;
  receiver = record (executed_by a d) { progress = if finishes (part_of d.opcode) then NoMessage else InSend (before + length d.payload) r };
  regions = landed_in a.regions r before d.payload;
  unused = unused_in a;
  done = if finishes (part_of d.opcode) then done_receive a.qp wc.Recv (before + length d.payload) d.imm r ∷ [] else [];
}

-- check 4, and a SEND that fits
abbrev pub sending : Around → Packet → Taking
sending a d =
    if nat_lt (receive_in a).length (bytes_before None a.receiver.progress + length d.payload)
    then too_long_taking a
    else send_taking a d (receive_in a) (bytes_before None a.receiver.progress)

-- a WRITE with immediate uses a receive at its last packet
abbrev pub uses_receive : Packet → Bool
uses_receive d = finishes (part_of d.opcode) && is_some d.imm

-- the completion of a message with immediate
abbrev pub immediate_done : ℕ → ℕ → Option ℕ → Receive → List Completion
immediate_done qp count None r = []
immediate_done qp count (Some imm) r = done_receive qp wc.RecvImm count (Some imm) r ∷ []

-- where a WRITE goes on
abbrev pub place_at : RegionRange → ℕ → Place
place_at spot done = record { region = spot.region; off = spot.off; length = spot.length; done = done }

-- the bytes of a WRITE go to its place; its last packet ends it, and completes a receive where it has an immediate
unfoldable pub write_taking : Around → Packet → Place → Taking
write_taking a d p = record {
  reply = acted d;
  receiver = record (executed_by a d) { progress = if finishes (part_of d.opcode) then NoMessage else InWrite p.region p.off p.length (p.done + length d.payload) };
  regions = (written (context_of a.regions) p.region (p.off + p.done) d.payload).regions;
  unused = if uses_receive d then drop 1 a.unused else a.unused;
  done = if finishes (part_of d.opcode) then immediate_done a.qp p.length d.imm (front a.unused) else [];
}

-- a READ is answered with the bytes as they are
abbrev pub read_taking : Around → Packet → Region → ℕ → Option Reth → Taking
read_taking a d r n None = answers a (Silent why.Useless)
read_taking a d r n (Some h) = receives a (bytes_of a r h n) (executed_by a d)

-- the word of an atomic changes, and its old value is kept
unfoldable pub word_taking : Around → Packet → Region → ℕ → AtomicEth → ℕ → Taking
word_taking a d r n h old = record {
  reply = AtomicOld n old;
  receiver = record (executed_by a d) { kept = keeping a.receiver.kept (record { number = n; old = old }) };
  regions = (written (context_of a.regions) r.keys.local (h.address - r.base) (word_bytes (atomic_value d.opcode h old))).regions;
  unused = a.unused;
  done = [];
}

-- an atomic acts on the word as it is
abbrev pub atomic_taking : Around → Packet → Region → ℕ → Option AtomicEth → Taking
atomic_taking a d r n None = answers a (Silent why.Useless)
atomic_taking a d r n (Some h) = word_taking a d r n h (word_at r (h.address - r.base))

-- a packet that no check refuses
unfoldable pub acting : Around → Packet → Region → ℕ → Taking
acting a d r n =
    if is_send d.opcode
    then send_taking a d (receive_in a) (bytes_before None a.receiver.progress)
    else if is_write d.opcode
    then write_taking a d (place_of r d.reth a.receiver.progress)
    else if is_read_request d.opcode then read_taking a d r n d.reth else atomic_taking a d r n d.atomic

-- ---- the expected number: the checks

-- checks 2 to 4: access, a receive, its length
abbrev pub granted_taking : Around → Packet → ℕ → Option Region → Taking
granted_taking a d n None = answers a (Refused refused.Access)
granted_taking a d n (Some r) =
    if is_not_ready (end_of a) d
    then answers a NotReady
    else if is_too_long (end_of a) (link_of a) d then too_long_taking a else acting a d r n

-- check 1, after one that the numbers do not run out
unfoldable pub expected_taking : Around → Packet → ℕ → Taking
expected_taking a d n =
    if nat_le number_limit (n + span_of_packet d a.terms.mtu d.reth)
    then no_repeat a
    else if is_invalid (link_of a) d then answers a (Refused refused.Invalid) else granted_taking a d n (target_of a d)

-- ---- every request

-- ahead, before or expected
abbrev pub number_taking : Around → Packet → Option ℕ → Taking
number_taking a d None = no_repeat a
number_taking a d (Some n) =
    if nat_lt a.receiver.expected n
    then ahead_taking a
    else if nat_lt n a.receiver.expected then repeated_taking a d n else expected_taking a d n

-- a request: its number is unwrapped near the expected one
unfoldable pub taking : Around → Packet → Taking
taking a d = number_taking a d (unwrap_near a.terms.peer_start d.psn a.receiver.expected)

-- a request at an end of this domain and this number
abbrev pub taken_request : Terms → (domain : Name) → (qp : ℕ) → Receiver → List Region → List Receive → Packet → Taking
taken_request terms domain qp r regions unused d = taking (record { terms = terms; domain = domain; qp = qp; receiver = r; regions = regions; unused = unused }) d

-- ---- completions

-- the queue with more completions, each in a place that was reserved
abbrev pub with_done : Queue → List Completion → Queue
with_done q done = record q { reserved = q.reserved - length done; entries = q.entries ++ done }
