-- Requests that do not act: ahead of the expected one, and repeats of Writes and Sends.
use Rattle.std.proofs.Common.{arith, ◌≡◌, ◌≢◌, ◌<◌, ◌≤◌, ◌-◌, ℕ, List, [], ◌∷◌, length, true, false, Bool, refl, sym, ap, ◌∙◌}
use Rattle.std.specs.Prelude.{Option, Some, None, if◌then◌else◌, All, nat_lt, ◌==◌}
use Rattle.std.proofs.lemmas.Bool.Decides.{nat_tests}
use Rattle.std.proofs.lemmas.List.Elements.{All-nil, All-cons}
use Rattle.rdma_types.specs.declared.names.ObjName.{ObjName}
use Rattle.rdma_types.specs.declared.answers.Sent.{Sent}
use Rattle.rdma_types.specs.declared.answers.ArrivalEffect.TheVariants as took
use Rattle.rdma_types.specs.declared.answers.DropReason.TheVariants as why
use Rattle.rdma_types.specs.Kinds.{is_read, is_atomic, kind_of}
use Rattle.rdma_types.specs.Objects.{Posted}
use Rattle.rdma_types.specs.Spans.{piece_of, request_of}
use Rattle.protocol.specs.declared.wire.Syndrome.TheVariants.{Ack, Nak}
use Rattle.protocol.specs.State as state
use Rattle.protocol.specs.State.{World, Link, Receiver}
use Rattle.protocol.specs.Wire.{Packet}
use Rattle.protocol.specs.EndWords as words
use Rattle.protocol.specs.EndWords.{is_paused, silent}
use Rattle.protocol.specs.EndStep.{takes}
use Rattle.protocol.specs.Responder.{request_at, ahead, repeated, expected_packet, acknowledge, is_read_request}
use Rattle.protocol.specs.DeviceStep.{ended_step}
use Rattle.protocol.specs.WorldStep.{home, ran}
use Rattle.packetless_machine.specs.Machine as machine
use Rattle.packetless_machine.specs.Machine.{Machine, End, posted_at}
use Rattle.packetless_machine.specs.Numbers.{due}
use Rattle.law_simulation.specs.Packets.{class_of, IsRequest}
use Rattle.law_simulation.specs.Carries.{request_steps, repeat_steps, due_steps}
use Rattle.protocol.specs.Fabric.{flight_of}
use Rattle.protocol.specs.Numbers.{wire_number}
use Rattle.protocol.specs.Segments.{message_packet, is_first_piece, is_last_piece}
use Rattle.law_simulation.specs.Facts.{Fact}
use Rattle.law_simulation.specs.Views.{net_of, side_of, link_of, requests_of}
use Rattle.law_simulation.proofs.requests.Opcodes.{message_is, message_kind}
use Rattle.law_simulation.specs.Stands.{Stands}
use Rattle.law_simulation.specs.Delivered.{Arrives, Takes, context_there, end_there}
use Rattle.law_simulation.proofs.delivery.Arriving.{unchanged_stands}
use Rattle.law_simulation.proofs.delivery.Lifted.{IsAnswer, side_now, unchanged_sent, answer_fact}
use Rattle.law_simulation.proofs.requests.Requests.{IsRequestAt, asker, asking, request_at_end}
use Rattle.law_simulation.proofs.requests.Replies.{sequence_nak_answer, ack_answer}
use Rattle.law_simulation.proofs.requests.Responding.{responds, takes_so, step_of}
use Rattle.law_simulation.proofs.requests.Advancing.{got}
use Rattle.law_simulation.proofs.requests.Counting.{notes}

-- ---- which case it is

pub not_less : (a b : ℕ) → b ≤ a → nat_lt a b ≡ false
not_less a b h = grind (arith, nat_tests)

pub is_less : (a b : ℕ) → a < b → nat_lt a b ≡ true
is_less a b h = grind (arith, nat_tests)

pub not_same : (a b : ℕ) → (a ≢ b) → (a == b) ≡ false
not_same a b h = grind (arith, nat_tests)

pub same_due : (e : End) → due (requests_of e) ≡ due e
unfolding due
same_due e = refl

-- past the one that acts next, it carries no step
pub none_ahead : (m : Machine) (q : ObjName) (n bytes : ℕ) → due (machine.end_of m q) < n → request_steps m q n bytes ≡ []
unfolding request_steps
none_ahead m q n bytes h = rw (not_same n (due (machine.end_of m q)) (λ e. omega (arith, e, h)), not_less n (due (machine.end_of m q)) (omega (arith, h))) refl

-- before it, those of a repeat
pub repeats_before : (m : Machine) (q : ObjName) (n bytes : ℕ) → n < due (machine.end_of m q) → request_steps m q n bytes ≡ repeat_steps m q (request_of (machine.end_of m q).posted (machine.end_of m q).mtu n) (piece_of (machine.end_of m q).posted (machine.end_of m q).mtu n)
unfolding request_steps
repeats_before m q n bytes h = rw (not_same n (due (machine.end_of m q)) (λ e. omega (arith, e, h)), is_less n (due (machine.end_of m q)) h) refl

-- .. and the one that is due
pub acts_now : (m : Machine) (q : ObjName) (n bytes : ℕ) → n ≡ due (machine.end_of m q) → request_steps m q n bytes ≡ due_steps m q bytes
unfolding request_steps
acts_now m q n bytes h = ap (λ b. if b then due_steps m q bytes else if nat_lt n (due (machine.end_of m q)) then repeat_steps m q (request_of (machine.end_of m q).posted (machine.end_of m q).mtu n) (piece_of (machine.end_of m q).posted (machine.end_of m q).mtu n) else []) (test n (due (machine.end_of m q)) h)
  where
    test : (a b : ℕ) → a ≡ b → (a == b) ≡ true
    test a b h = grind (arith, nat_tests)

-- ---- ahead

one : {A : Type 0} (P : A → Type 0) (x : A) → P x → All P (x ∷ [])
one P x h = All-cons P x [] h (All-nil P)

dup_is : (c : state.Context) (e : state.End) (l : Link) (d : Packet) (n : ℕ) → is_read_request d.opcode ≡ false → d.atomic ≡ None → repeated c e l d n ≡ record { context = c; took = took.DupAck; sent = acknowledge l (l.receiver.expected - 1) Ack ∷ [] }
unfolding repeated
dup_is c e l d n read atomic = rw (read, atomic) refl

module _ (w : World) (m : Machine) (o : ObjName) (l : Link) (number : Option ℕ) (bytes : List ℕ) (d : Packet) (a : Arrives w m o l number bytes d) (is : class_of d ≡ IsRequest) (paused : is_paused l.moving.phase ≡ false) where
  abbrev r : (n : ℕ) × (number ≡ Some n) × IsRequestAt w m o l n d
  r = request_at_end w m o l number bytes d a is

  abbrev n : ℕ
  n = r.0

  abbrev at : IsRequestAt w m o l n d
  at = r.2

  abbrev c : state.Context
  c = context_there w o

  abbrev e : state.End
  e = end_there w o

  pub due_is : l.receiver.expected ≡ due (machine.end_of m (asker m o))
  due_is = at.receives.expected ∙ same_due (machine.end_of m (asker m o))

  pub step_is : takes c e l d ≡ request_at c e l d (Some n)
  step_is = step_of w m o l n d a.alive at ∙ ap (λ b. if b then silent c why.Paused else request_at c e l d (Some n)) paused

  -- what it carries
  pub carries_is : (if is_paused l.moving.phase then [] else request_steps m (asker m o) n (length d.payload)) ≡ request_steps m (asker m o) n (length d.payload)
  carries_is = ap (λ b. if b then [] else request_steps m (asker m o) n (length d.payload)) paused

  abbrev noted : Receiver
  noted = record l.receiver { nak_sent = true }

  -- one NAK, and no more until progress
  nak_answer : IsAnswer (side_of w (asker m o)) (side_now (side_of w o) (got l noted)) (requests_of (machine.end_of m (asker m o))) (requests_of (machine.end_of m o)) (acknowledge l l.receiver.expected (Nak 0))
  nak_answer = sequence_nak_answer l (side_of w (asker m o)) (side_now (side_of w o) (got l noted)) (asking m o) (requests_of (machine.end_of m o)) l.receiver.expected at.towards (omega (arith, at.receives.expected))

  naks : (b : Bool) → Stands (ran w (ended_step (home w o.context) (if b then silent c why.NakSent else record { context = words.linked c e (got l noted); took = took.SeqNak; sent = acknowledge l l.receiver.expected (Nak 0) ∷ [] }))).world m
  naks true = unchanged_stands w m o.context (took.Silent why.NakSent) a.stands a.live
  naks false =
      responds w m m o l n d noted (words.linked c e (got l noted)) (machine.context_of m o.context) (machine.end_of m o) _ _ _ _ _ a.stands a.live a.alive at
      (notes w m o l n d a.stands a.live a.linked at noted refl refl refl) took.SeqNak (acknowledge l l.receiver.expected (Nak 0) ∷ [])
      (one (IsAnswer (side_of w (asker m o)) (side_now (side_of w o) (got l noted)) (requests_of (machine.end_of m (asker m o))) (requests_of (machine.end_of m o))) _ nak_answer)

  ahead_stands : Stands (ran w (ended_step (home w o.context) (ahead c e l))).world m
  unfolding ahead words.with_receiver
  ahead_stands = naks l.receiver.nak_sent

  pub ahead_taken : l.receiver.expected < n → Takes w m o l number d
  ahead_taken later =
      takes_so w m o l number d n [] (ahead c e l) r.1 at.link is tt tt
      (sym (carries_is ∙ none_ahead m (asker m o) n (length d.payload) (omega (arith, due_is, later))))
      (step_is ∙ ap (λ b. if b then ahead c e l else if nat_lt n l.receiver.expected then repeated c e l d n else expected_packet c e l d n) (is_less l.receiver.expected n later))
      ahead_stands

  -- ---- repeats

  -- the request that it is of, at the machine
  abbrev asked : Posted
  asked = posted_at (machine.end_of m (asker m o)).posted (request_of (machine.end_of m (asker m o)).posted (machine.end_of m (asker m o)).mtu n)

  pub request_is : at.packet.piece.posted ≡ asked
  request_is = at.packet.is.request ∙ ap (λ k. posted_at (asking m o).posted (request_of (asking m o).posted k n)) at.back.mtu

  pub piece_number : at.packet.piece.k ≡ piece_of (machine.end_of m (asker m o)).posted (machine.end_of m (asker m o)).mtu n
  piece_number = at.packet.is.piece ∙ ap (λ k. piece_of (asking m o).posted k n) at.back.mtu

  abbrev mtu : ℕ
  mtu = (link_of w (asker m o)).terms.mtu

  abbrev dest : ℕ
  dest = (link_of w (asker m o)).peer

  abbrev psn : ℕ
  psn = wire_number (link_of w (asker m o)).terms.own_start n

  pub repeat_step : n < l.receiver.expected → takes c e l d ≡ repeated c e l d n
  repeat_step before =
      step_is
      ∙ (ap (λ b. if b then ahead c e l else if nat_lt n l.receiver.expected then repeated c e l d n else expected_packet c e l d n) (not_less l.receiver.expected n (omega (arith, before)))
      ∙ ap (λ b. if b then repeated c e l d n else expected_packet c e l d n) (is_less n l.receiver.expected before))

  -- a datagram of this end has its fact
  pub fact_now : (z : Sent) → IsAnswer (side_of w (asker m o)) (side_of w o) (requests_of (machine.end_of m (asker m o))) (requests_of (machine.end_of m o)) z → Fact (net_of w m) (flight_of (home w o.context).address z)
  fact_now z h = answer_fact w m o (home w o.context).address z a.stands at.live h

  -- of a Write or Send: the last number that acted is acknowledged
  module _ (not_read : is_read (kind_of asked) ≡ false) (not_atomic : is_atomic (kind_of asked) ≡ false) (before : n < l.receiver.expected) where
    not_read' : is_read (kind_of at.packet.piece.posted) ≡ false
    not_read' = ap (λ z. is_read (kind_of z)) request_is ∙ not_read

    not_atomic' : is_atomic (kind_of at.packet.piece.posted) ≡ false
    not_atomic' = ap (λ z. is_atomic (kind_of z)) request_is ∙ not_atomic

    message : d ≡ message_packet at.packet.piece.posted mtu at.packet.piece.k dest psn (is_first_piece at.packet.piece.k) (is_last_piece at.packet.piece.posted.request.shape mtu at.packet.piece.k)
    message = at.packet.packet ∙ message_is at.packet.piece.posted mtu at.packet.piece.k dest psn not_read' not_atomic'

    no_read : is_read_request d.opcode ≡ false
    no_read = ap (λ z. is_read_request z.opcode) message ∙ (message_kind at.packet.piece.posted mtu at.packet.piece.k dest psn not_read' not_atomic').read

    no_atomic : d.atomic ≡ None
    unfolding message_packet
    no_atomic = ap (λ z. z.atomic) message

    none_repeated : repeat_steps m (asker m o) (request_of (machine.end_of m (asker m o)).posted (machine.end_of m (asker m o)).mtu n) (piece_of (machine.end_of m (asker m o)).posted (machine.end_of m (asker m o)).mtu n) ≡ []
    unfolding repeat_steps
    none_repeated = rw not_read refl

    pub dup_taken : Takes w m o l number d
    dup_taken =
        takes_so w m o l number d n [] (record { context = c; took = took.DupAck; sent = acknowledge l (l.receiver.expected - 1) Ack ∷ [] }) r.1 at.link is tt tt
        (sym (carries_is ∙ (repeats_before m (asker m o) n (length d.payload) (omega (arith, due_is, before)) ∙ none_repeated)))
        (repeat_step before ∙ dup_is c e l d n no_read no_atomic)
        (unchanged_sent w m o took.DupAck (acknowledge l (l.receiver.expected - 1) Ack ∷ []) a.stands a.live
        (one (λ z. Fact (net_of w m) (flight_of (home w o.context).address z)) (acknowledge l (l.receiver.expected - 1) Ack)
        (fact_now _ (ack_answer l (side_of w (asker m o)) (side_of w o) (asking m o) (requests_of (machine.end_of m o)) (l.receiver.expected - 1) at.towards (omega (arith, at.receives.expected, before))))))
