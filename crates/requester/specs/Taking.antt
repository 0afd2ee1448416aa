-- What a response does to a requester (IBA 9.7): its answer, and the sender that it leaves, whose told requests are not
-- handed out yet.
use Rattle.std.specs.Prelude.{ℕ, ◌+◌, ◌-◌, ◌*◌, ◌==◌, ◌&&◌, ◌||◌, not, min, Bool, true, false, List, length, Option, Some, None, slice_get, unwrap_or, nat_lt, nat_le, if◌then◌else◌}
use Rattle.rdma_types.specs.declared.answers.ArrivalEffect.TheVariants as took
use Rattle.rdma_types.specs.declared.requests.Terms.{Terms}
use Rattle.rdma_types.specs.declared.requests.WcStatus.{WcStatus}
use Rattle.rdma_types.specs.declared.requests.WcStatus.TheVariants as status
use Rattle.rdma_types.specs.Kinds.{is_read}
use Rattle.rdma_types.specs.Memory.{word_bytes}
use Rattle.rdma_types.specs.Objects as objects
use Rattle.rdma_types.specs.Spans.{Piece, piece_at, piece_length, request_of}
use Rattle.protocol.specs.declared.wire.Aeth.{Aeth}
use Rattle.protocol.specs.declared.wire.Syndrome.{Syndrome}
use Rattle.protocol.specs.declared.wire.Syndrome.TheVariants.{Ack, Rnr, Nak}
use Rattle.protocol.specs.EndWords.{EndStep, stays}
use Rattle.protocol.specs.Memory.{landed}
use Rattle.protocol.specs.Numbers.{unwrap_near}
use Rattle.protocol.specs.Requester.{advanced, barrier, ends_after, rewound, telling, useless, waited, waiting}
use Rattle.protocol.specs.State.{Context, End, Link, Sender}
use Rattle.protocol.specs.Wire.{Packet, is_read_response}
use Rattle.requester.specs.declared.answers.ResponseEffect.{ResponseEffect}
use Rattle.requester.specs.declared.answers.ResponseEffect.TheVariants.{Acked, Ended, Landed, OldLanded, Rewound, Useless, Waits}

-- the answer, and the sender after it
pub record Taking : Type 0 where
  pub taken : ResponseEffect
  pub sender : Sender

-- an answer and a sender
abbrev pub answers : ResponseEffect → Sender → Taking
answers t s = record { taken = t; sender = s }

-- numbers below n are acknowledged, up to the barrier
unfoldable pub acknowledging : Terms → Sender → ℕ → Sender
acknowledging terms s n = advanced s (min n (barrier terms s))

-- `una` moved, or nothing changed
unfoldable pub moved_or_useless : Sender → Sender → Taking
moved_or_useless old new = if nat_lt old.una new.una then answers Acked new else answers Useless old

-- a NAK 1 or 2: an end where it speaks of the oldest number, and else a rewind
unfoldable pub refusing : Sender → ℕ → WcStatus → Taking
refusing s n why = if s.una == n then answers (Ended why) s else answers Rewound (rewound s)

-- NAK 0 rewinds, NAK 1 and 2 refuse, other codes are useless
unfoldable pub nak_taking : Terms → Sender → ℕ → ℕ → Taking
nak_taking terms s n code =
    if code == 0
    then answers Rewound (rewound (acknowledging terms s n))
    else if code == 1
    then refusing (acknowledging terms s n) n status.RemoteInvalid
    else if code == 2 then refusing (acknowledging terms s n) n status.RemoteAccess else answers Useless s

-- an end after the last wait, and else a wait
unfoldable pub wait_taking : Terms → Sender → Taking
wait_taking terms s = if not (terms.rnr == 7) && s.waits == terms.rnr + 1 then answers (Ended status.RnrExceeded) s else answers Waits (waiting s)

-- receiver not ready; where `una` is then not n, it is an ACK
unfoldable pub rnr_taking : Terms → Sender → Sender → ℕ → Taking
rnr_taking terms old s n = if s.una == n then wait_taking terms (waited s) else moved_or_useless old s

-- receiver not ready; where it waits already it changes nothing
unfoldable pub not_ready_taking : Terms → Sender → ℕ → Taking
not_ready_taking terms s n = if s.rnr_wait then answers Useless s else rnr_taking terms s (acknowledging terms s n) n

-- ACK, RNR NAK or NAK
abbrev pub syndrome_taking : Terms → Sender → ℕ → Syndrome → Taking
syndrome_taking terms s n Ack = moved_or_useless s (acknowledging terms s (n + 1))
syndrome_taking terms s n Rnr = not_ready_taking terms s n
syndrome_taking terms s n (Nak code) = nak_taking terms s n code

-- an acknowledge, only for numbers that are sent and not acknowledged
abbrev pub acknowledge_taking : Terms → Sender → ℕ → Option Aeth → Taking
acknowledge_taking terms s n None = answers Useless s
acknowledge_taking terms s n (Some h) = if nat_le s.una n && nat_lt n s.top then syndrome_taking terms s n h.syndrome else answers Useless s

-- ---- READ responses and ATOMIC acknowledges

-- kind and payload length are this piece's
unfoldable pub is_of_piece : Terms → Packet → Piece → Bool
is_of_piece terms d x =
    if is_read x.posted.request.shape.kind
    then is_read_response d.opcode && length d.payload == piece_length x.posted.request.shape.length x.k terms.mtu
    else d.opcode == 0x12

-- the bytes of a Read land at the piece's offset, an old value in the request's place
unfoldable pub landing_of : Terms → Packet → ℕ → Piece → ResponseEffect
landing_of terms d index x = if is_read x.posted.request.shape.kind then Landed index (x.k * terms.mtu) else OldLanded index (unwrap_or d.old 0)

-- the response of this piece lands, and all before it is acknowledged
abbrev pub piece_taking : Terms → Sender → Packet → ℕ → Option Piece → Taking
piece_taking terms s d n None = answers Useless s
piece_taking terms s d n (Some x) =
    if is_of_piece terms d x
    then answers (landing_of terms d (request_of s.untold terms.mtu (n - s.first)) x) (advanced s (n + 1))
    else answers Useless s

-- a response lands at the barrier alone
unfoldable pub landing_taking : Terms → Sender → Packet → ℕ → Taking
landing_taking terms s d n =
    if n == barrier terms s && nat_lt n s.top
    then piece_taking terms s d n (piece_at s.untold terms.mtu (n - s.first))
    else answers Useless s

-- ---- every response

-- the two tables, for a number near `una`
abbrev pub number_taking : Terms → Sender → Packet → Option ℕ → Taking
number_taking terms s d None = answers Useless s
number_taking terms s d (Some n) =
    if is_read_response d.opcode || d.opcode == 0x12 then landing_taking terms s d n else acknowledge_taking terms s n d.aeth

-- a response: its number is unwrapped near `una`
unfoldable pub taken_response : Terms → Sender → Packet → Taking
taken_response terms s d = number_taking terms s d (unwrap_near terms.own_start d.psn s.una)

-- ---- what the answers are to an end

-- the untold request at a place
abbrev pub request_at : Sender → ℕ → objects.Posted
request_at s index = unwrap_or (slice_get s.untold index) objects.no_posted

-- the step of the end of the link l on such an answer, from the sender after it: what lands lies in the place of the
-- request, what is told completes, and the answer is in the end's words
abbrev pub step_by : Context → End → Link → Packet → ResponseEffect → Sender → EndStep
step_by c e l d Acked s = stays (telling c e l s) took.Acked
step_by c e l d (Landed index off) s =
    stays (telling (landed c (request_at l.sender index).request.lkey ((request_at l.sender index).request.local + off) d.payload) e l s) took.Landed
step_by c e l d (OldLanded index old) s =
    stays (telling (landed c (request_at l.sender index).request.lkey (request_at l.sender index).request.local (word_bytes old)) e l s) took.Landed
step_by c e l d Rewound s = stays (telling c e l s) took.Rewound
step_by c e l d Waits s = stays (telling c e l s) took.Waits
step_by c e l d (Ended why) s = ends_after c e l s why
step_by c e l d Useless s = useless c

-- the step on what a response does
unfoldable pub step_of : Context → End → Link → Packet → Taking → EndStep
step_of c e l d t = step_by c e l d t.taken t.sender
