-- What an end sends for a datagram: a request or a RESUME is answered, an answer is not.
use Rattle.std.proofs.Common.{◌≡◌, ◌-◌, ◌+◌, ℕ, zero, suc, List, [], ◌∷◌, true, false, Bool, refl, sym, ap, ◌∙◌, subst}
use Rattle.std.specs.Prelude.{All, Option, Some, None, is_some, if◌then◌else◌, ◌==◌, ◌||◌, not, nat_le, nat_lt}
use Rattle.std.proofs.lemmas.List.Elements.{All-nil, All-cons}
use Rattle.rdma_types.specs.declared.answers.Sent.{Sent}
use Rattle.rdma_types.specs.declared.answers.ArrivalEffect.{ArrivalEffect}
use Rattle.rdma_types.specs.declared.answers.RefusalReason.{RefusalReason}
use Rattle.rdma_types.specs.declared.answers.RefusalReason.TheVariants as refused
use Rattle.rdma_types.specs.Limits.{number_limit}
use Rattle.rdma_types.specs.Objects.{Region}
use Rattle.rdma_types.specs.Spans.{pieces}
use Rattle.protocol.specs.declared.images.KeptReply.{KeptReply}
use Rattle.protocol.specs.declared.wire.AtomicEth.{AtomicEth}
use Rattle.protocol.specs.declared.wire.Reth.{Reth}
use Rattle.protocol.specs.declared.wire.Syndrome.{Syndrome}
use Rattle.protocol.specs.declared.wire.Syndrome.TheVariants.{Ack, Rnr, Nak}
use Rattle.protocol.specs.Bytes.{byte_at}
use Rattle.protocol.specs.Numbers.{unwrap_near}
use Rattle.protocol.specs.State.{Link, End, Context}
use Rattle.protocol.specs.Wire.{Packet, is_request, wire_of}
use Rattle.protocol.specs.EndWords.{EndStep, stays, is_paused}
use Rattle.protocol.specs.Requester as requester
use Rattle.protocol.specs.Responder as responder
use Rattle.protocol.specs.Moves.{Control, Stopped, Resume, ResumeAck, MoveTook, GoesPaused, Resumed, Again, GoesRunning, Stale, control_of, moves_by, takes_control}
use Rattle.protocol.specs.EndStep.{takes, takes_kind, takes_other}
use Rattle.law_devices.specs.Silent.{IsSilent}
use Rattle.law_devices.proofs.Silent.{response_silent}

-- bytes that are neither a request nor a RESUME
pub record IsReply (bs : List ℕ) : Type 0 where
  pub no_request : is_request (byte_at 0 bs) ≡ false
  pub no_resume : (byte_at 0 bs == 0x1E) ≡ false

-- the bytes of a NAK_STOPPED
pub record IsStop (bs : List ℕ) : Type 0 where
  pub opcode : byte_at 0 bs ≡ 0x11
  pub syndrome : byte_at 12 bs ≡ 0x65

-- each datagram of a step is an answer
pub record Replies (s : EndStep) : Type 0 where
  pub each : All (λ z. IsReply z.bytes) s.sent

if_replies : (b : Bool) (x y : EndStep) → Replies x → Replies y → Replies (if b then x else y)
if_replies true x y h k = h
if_replies false x y h k = k

-- a datagram is written with its opcode first
pub opcode_first : (d : Packet) → byte_at 0 (wire_of d) ≡ d.opcode
unfolding wire_of
opcode_first d = refl

written : (d : Packet) → is_request d.opcode ≡ false → (d.opcode == 0x1E) ≡ false → IsReply (wire_of d)
written d a b = record { no_request = ap is_request (opcode_first d) ∙ a; no_resume = ap (λ n. n == 0x1E) (opcode_first d) ∙ b }

none : (c : Context) (t : ArrivalEffect) → Replies (stays c t)
none c t = record { each = All-nil (λ z. IsReply z.bytes) }

one : (c : Context) (t : ArrivalEffect) (z : Sent) → IsReply z.bytes → Replies (record { context = c; took = t; sent = z ∷ [] })
one c t z h = record { each = All-cons (λ z. IsReply z.bytes) z [] h (All-nil (λ z. IsReply z.bytes)) }

acknowledged : (l : Link) (n : ℕ) (s : Syndrome) → IsReply (responder.acknowledge l n s).bytes
unfolding responder.acknowledge is_request
acknowledged l n s = written _ refl refl

olded : (l : Link) (n old : ℕ) → IsReply (responder.old_answer l n old).bytes
unfolding responder.old_answer is_request
olded l n old = written _ refl refl

read_by : (l : Link) (n k count : ℕ) (bytes : List ℕ) (a b c : Bool) →
    let d : Packet = if a then record (responder.response l 0x10 n Ack) { payload = bytes } else if b then record (responder.response l 0x0D n Ack) { payload = bytes } else if c then record (responder.response l 0x0F n Ack) { payload = bytes } else responder.read_response l n 5 7 bytes in
    (is_request d.opcode ≡ false) × ((d.opcode == 0x1E) ≡ false)
unfolding is_request
read_by l n k count bytes true b c = (refl, refl)
read_by l n k count bytes false true c = (refl, refl)
read_by l n k count bytes false false true = (refl, refl)
read_by l n k count bytes false false false = (refl, refl)

read_one : (l : Link) (r : Region) (off length' n k : ℕ) → IsReply (responder.read_piece l r off length' n k).bytes
read_one l r off length' n k =
    let count : ℕ = pieces length' l.terms.mtu in
    let h = read_by l (n + k) k count _ (count == 1) (k == 0) (k + 1 == count) in
    written _ h.0 h.1

read_all : (l : Link) (r : Region) (off length' n left : ℕ) → All (λ z. IsReply z.bytes) (responder.read_pieces l r off length' n left)
unfolding responder.read_pieces
read_all l r off length' n zero = All-nil (λ z. IsReply z.bytes)
read_all l r off length' n (suc left) = All-cons (λ z. IsReply z.bytes) _ _ (read_one l r off length' n _) (read_all l r off length' n left)

-- ---- requests

module _ (c : Context) (e : End) (l : Link) (d : Packet) where
  ahead_replies : Replies (responder.ahead c e l)
  unfolding responder.ahead
  ahead_replies = if_replies l.receiver.nak_sent _ _ (none _ _) (one _ _ _ (acknowledged l l.receiver.expected (Nak 0)))

  granted_replies : (o : Option Region) (h : Reth) (n : ℕ) → Replies (responder.answers_read c l o h n)
  granted_replies None h n = none _ _
  granted_replies (Some r) h n = record { each = read_all l r (h.address - r.base) h.length n (pieces h.length l.terms.mtu) }

  reread_replies : (o : Option Reth) (n : ℕ) → Replies (responder.repeats_read c e l o n)
  reread_replies None n = none _ _
  reread_replies (Some h) n = if_replies (nat_le (n + pieces h.length l.terms.mtu) l.receiver.expected) _ _ (granted_replies _ h n) (none _ _)

  old_replies : (n : ℕ) (o : Option KeptReply) → Replies (responder.answers_old c l n o)
  old_replies n None = none _ _
  old_replies n (Some k) = one _ _ _ (olded l n k.old)

  repeated_replies : (n : ℕ) → Replies (responder.repeated c e l d n)
  unfolding responder.repeated
  repeated_replies n = if_replies (responder.is_read_request d.opcode) _ _ (reread_replies d.reth n) (if_replies (is_some d.atomic) _ _ (old_replies n _) (one _ _ _ (acknowledged l (l.receiver.expected - 1) Ack)))

  refused_replies : (c' : Context) (e' : End) (l' : Link) (n : ℕ) (w : RefusalReason) → Replies (responder.refuses c' e' l' n w)
  refused_replies c' e' l' n w = one _ _ _ (acknowledged l' n (Nak (responder.nak_code w)))

  acts_replies : (c' : Context) (l' : Link) (n : ℕ) → Replies (responder.acts c' l' d n)
  acts_replies c' l' n = if_replies (responder.finishes (responder.part_of d.opcode) || d.ack_request) _ _ (one _ _ _ (acknowledged l' n Ack)) (none _ _)

  read_replies : (l' : Link) (r : Region) (n : ℕ) (o : Option Reth) → Replies (responder.read_acts c e l' r n o)
  read_replies l' r n None = none _ _
  read_replies l' r n (Some h) = record { each = read_all l' r (h.address - r.base) h.length n (pieces h.length l'.terms.mtu) }

  atomic_replies : (l' : Link) (r : Region) (n : ℕ) (o : Option AtomicEth) → Replies (responder.atomic_acts c e l' d r n o)
  unfolding responder.atomic_done
  atomic_replies l' r n None = none _ _
  atomic_replies l' r n (Some h) = one _ _ _ (olded l' n _)

  packet_replies : (l' : Link) (r : Region) (n : ℕ) → Replies (responder.packet_acts c e l' d r n)
  unfolding responder.packet_acts
  packet_replies l' r n =
      if_replies (responder.is_send d.opcode) _ _ (acts_replies _ l' n)
      (if_replies (responder.is_write d.opcode) _ _ (acts_replies _ l' n)
      (if_replies (responder.is_read_request d.opcode) _ _ (read_replies l' r n d.reth) (atomic_replies l' r n d.atomic)))

  target_replies : (n : ℕ) (o : Option Region) → Replies (responder.granted_packet c e l d n o)
  unfolding responder.not_ready responder.refuses_length
  target_replies n None = refused_replies c e l n _
  target_replies n (Some r) =
      if_replies (responder.is_not_ready e d) _ _ (one _ _ _ (acknowledged l n Rnr))
      (if_replies (responder.is_too_long e l d) _ _ (refused_replies _ _ _ n _) (packet_replies (responder.executed l d) r n))

  expected_replies : (n : ℕ) → Replies (responder.expected_packet c e l d n)
  unfolding responder.expected_packet
  expected_replies n = if_replies (nat_le number_limit (n + responder.span_of_packet d l.terms.mtu d.reth)) _ _ (none c _) (if_replies (responder.is_invalid l d) _ _ (refused_replies c e l n refused.Invalid) (target_replies n (responder.target c e d)))

  request_replies : (o : Option ℕ) → Replies (responder.request_at c e l d o)
  request_replies None = none _ _
  request_replies (Some n) = if_replies (nat_lt l.receiver.expected n) _ _ ahead_replies (if_replies (nat_lt n l.receiver.expected) _ _ (repeated_replies n) (expected_replies n))

  -- ---- messages of moving

  moves_replies : (m : Control) (r : MoveTook) → Replies (moves_by c e l m r)
  unfolding moves_by is_request
  moves_replies (Stopped count) GoesPaused = none _ _
  moves_replies (Stopped count) Resumed = none _ _
  moves_replies (Stopped count) Again = none _ _
  moves_replies (Stopped count) GoesRunning = none _ _
  moves_replies (Stopped count) Stale = none _ _
  moves_replies (Resume body) Resumed = one _ _ _ (written _ refl refl)
  moves_replies (Resume body) Again = one _ _ _ (written _ refl refl)
  moves_replies (Resume body) GoesPaused = none _ _
  moves_replies (Resume body) GoesRunning = none _ _
  moves_replies (Resume body) Stale = none _ _
  moves_replies (ResumeAck count) GoesRunning = none _ _
  moves_replies (ResumeAck count) GoesPaused = none _ _
  moves_replies (ResumeAck count) Resumed = none _ _
  moves_replies (ResumeAck count) Again = none _ _
  moves_replies (ResumeAck count) Stale = none _ _

  -- ---- every packet

  silent_replies : (s : EndStep) → IsSilent s → Replies s
  silent_replies s h = record { each = subst (All (λ z. IsReply z.bytes)) (sym h.none) (All-nil (λ z. IsReply z.bytes)) }

  other_replies : Replies (takes_other c e l d)
  unfolding responder.takes_request requester.takes_response
  other_replies = if_replies (is_request d.opcode) _ _ (if_replies (is_paused l.moving.phase) _ _ (none c _) (request_replies (unwrap_near l.terms.peer_start d.psn l.receiver.expected))) (silent_replies (requester.takes_response c e l d) (response_silent c e l d (unwrap_near l.terms.own_start d.psn l.sender.una)))

  kind_replies : (m : Option Control) → Replies (takes_kind c e l d m)
  unfolding takes_control
  kind_replies None = other_replies
  kind_replies (Some m) = moves_replies m _

  pub takes_replies : Replies (takes c e l d)
  unfolding takes
  takes_replies = if_replies l.ended _ _ (none c _) (kind_replies (control_of d))
