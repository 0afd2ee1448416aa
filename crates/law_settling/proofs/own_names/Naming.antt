-- A packet that an end takes leaves its context with its name.
use Rattle.std.proofs.Common.{◌≡◌, ◌∙◌, ◌+◌, ◌-◌, ℕ, List, [], ◌∷◌, true, false, Bool, refl}
use Rattle.std.specs.Prelude.{Option, Some, None, is_some, if◌then◌else◌, ◌==◌, ◌&&◌, ◌||◌, not, nat_le, nat_lt}
use Rattle.rdma_types.specs.declared.requests.Completion.{Completion}
use Rattle.rdma_types.specs.declared.requests.Receive.{Receive}
use Rattle.rdma_types.specs.declared.requests.WcStatus.{WcStatus}
use Rattle.rdma_types.specs.declared.requests.WcStatus.TheVariants as status
use Rattle.rdma_types.specs.declared.answers.DropReason.TheVariants as why
use Rattle.rdma_types.specs.declared.answers.ArrivalEffect.TheVariants as took
use Rattle.rdma_types.specs.declared.answers.RefusalReason.{RefusalReason}
use Rattle.rdma_types.specs.declared.answers.RefusalReason.TheVariants as refused
use Rattle.rdma_types.specs.declared.names.Name.{Name}
use Rattle.rdma_types.specs.Limits.{number_limit}
use Rattle.rdma_types.specs.Objects.{Region}
use Rattle.rdma_types.specs.Kinds.{is_read}
use Rattle.rdma_types.specs.Spans.{Piece, piece_at, pieces}
use Rattle.protocol.specs.declared.images.KeptReply.{KeptReply}
use Rattle.protocol.specs.declared.wire.Aeth.{Aeth}
use Rattle.protocol.specs.declared.wire.AtomicEth.{AtomicEth}
use Rattle.protocol.specs.declared.wire.Reth.{Reth}
use Rattle.protocol.specs.declared.wire.Syndrome.{Syndrome}
use Rattle.protocol.specs.declared.wire.Syndrome.TheVariants.{Ack, Rnr, Nak}
use Rattle.protocol.specs.Memory.{landed, written, with_region}
use Rattle.protocol.specs.Numbers.{unwrap_near}
use Rattle.protocol.specs.State.{Link, End, Context, Sender}
use Rattle.protocol.specs.Wire.{Packet, is_request, is_read_response}
use Rattle.protocol.specs.EndWords.{EndStep, stays, silent, linked, completing, with_end, with_queue, is_paused}
use Rattle.protocol.specs.Requester as requester
use Rattle.protocol.specs.Requester.{advanced, acknowledged, telling, ended_with, waited, waiting}
use Rattle.protocol.specs.Responder as responder
use Rattle.protocol.specs.Moves.{Control, Stopped, Resume, ResumeAck, MoveTook, GoesPaused, Resumed, Again, GoesRunning, Stale, control_of, move_row, moves_by, takes_control}
use Rattle.protocol.specs.EndStep.{takes, takes_kind, takes_other}

module _ (n : Name) where
  -- the context has the name
  record IsCalled (c : Context) : Type 0 where
    is : c.name ≡ n

  -- the step leaves a context with the name
  record LeavesCalled (s : EndStep) : Type 0 where
    left : IsCalled s.context

  if_called : (b : Bool) (x y : Context) → IsCalled x → IsCalled y → IsCalled (if b then x else y)
  if_called true x y h g = h
  if_called false x y h g = g

  if_left : (b : Bool) (s t : EndStep) → LeavesCalled s → LeavesCalled t → LeavesCalled (if b then s else t)
  if_left true s t h g = h
  if_left false s t h g = g

  -- ---- parts of a context

  linked_called : (c : Context) (e : End) (l : Link) → IsCalled c → IsCalled (linked c e l)
  unfolding with_end
  linked_called c e l h = record { is = h.is }

  completing_called : (c : Context) (q : Name) (more : List Completion) → IsCalled c → IsCalled (completing c q more)
  unfolding completing with_queue
  completing_called c q more h = record { is = h.is }

  ended_called : (c : Context) (e : End) (l : Link) (s : WcStatus) → IsCalled c → IsCalled (ended_with c e l s)
  unfolding ended_with
  ended_called c e l s h = completing_called _ _ _ (completing_called _ _ _ (linked_called c _ _ h))

  telling_called : (c : Context) (e : End) (l : Link) (s : Sender) → IsCalled c → IsCalled (telling c e l s)
  unfolding telling
  telling_called c e l s h = completing_called _ _ _ (linked_called c _ _ h)

  written_called : (c : Context) (key off : ℕ) (bytes : List ℕ) → IsCalled c → IsCalled (written c key off bytes)
  unfolding written with_region
  written_called c key off [] h = h
  written_called c key off (b ∷ bs) h = record { is = h.is }

  landed_called : (c : Context) (key at : ℕ) (bytes : List ℕ) → IsCalled c → IsCalled (landed c key at bytes)
  unfolding landed
  landed_called c key at bytes h = written_called c key _ bytes h

  module _ (c : Context) (e : End) (l : Link) (h : IsCalled c) where
    same : (s : EndStep) → s.context ≡ c → LeavesCalled s
    same s is = record { left = record { is = (λ i. (is i).name) ∙ h.is } }

    -- ---- requests

    module _ (d : Packet) where
      ahead_left : LeavesCalled (responder.ahead c e l)
      unfolding responder.ahead
      ahead_left = if_left l.receiver.nak_sent _ _ (same _ refl) (record { left = linked_called c e _ h })

      read_left : (o : Option Region) (r : Reth) (k : ℕ) → LeavesCalled (responder.answers_read c l o r k)
      read_left None r k = same _ refl
      read_left (Some x) r k = same _ refl

      reread_left : (o : Option Reth) (k : ℕ) → LeavesCalled (responder.repeats_read c e l o k)
      reread_left None k = same _ refl
      reread_left (Some r) k = if_left (nat_le (k + pieces r.length l.terms.mtu) l.receiver.expected) _ _ (read_left _ r k) (same _ refl)

      old_left : (k : ℕ) (o : Option KeptReply) → LeavesCalled (responder.answers_old c l k o)
      old_left k None = same _ refl
      old_left k (Some kept) = same _ refl

      repeated_left : (k : ℕ) → LeavesCalled (responder.repeated c e l d k)
      unfolding responder.repeated
      repeated_left k = if_left (responder.is_read_request d.opcode) _ _ (reread_left d.reth k) (if_left (is_some d.atomic) _ _ (old_left k _) (same _ refl))

      refused_left : (k : ℕ) (w : RefusalReason) → LeavesCalled (responder.refuses c e l k w)
      refused_left k w = record { left = ended_called c e l _ h }

      length_left : (k : ℕ) → LeavesCalled (responder.refuses_length c e l k)
      unfolding responder.refuses_length
      length_left k = record { left = ended_called _ _ _ _ (completing_called c _ _ h) }

      acts_left : (x : Context) (l' : Link) (k : ℕ) → IsCalled x → LeavesCalled (responder.acts x l' d k)
      acts_left x l' k g = if_left (responder.finishes (responder.part_of d.opcode) || d.ack_request) _ _ (record { left = g }) (record { left = g })

      send_called : (x : Context) (l' : Link) (r : Receive) (done : ℕ) → IsCalled x → IsCalled (responder.send_done x e l' d r done)
      unfolding responder.send_done
      send_called x l' r done g = if_called (responder.finishes (responder.part_of d.opcode)) _ _ (completing_called _ _ _ (linked_called x _ _ g)) (linked_called x _ _ g)

      immediate_called : (x : Context) (l' : Link) (size : ℕ) (o : Option ℕ) → IsCalled x → IsCalled (responder.with_immediate x e l' size o)
      immediate_called x l' size None g = linked_called x _ _ g
      immediate_called x l' size (Some k) g = completing_called _ _ _ (linked_called x _ _ g)

      write_called : (x : Context) (l' : Link) (p : responder.Place) (done : ℕ) → IsCalled x → IsCalled (responder.write_done x e l' d p done)
      unfolding responder.write_done
      write_called x l' p done g = if_called (responder.finishes (responder.part_of d.opcode)) _ _ (immediate_called x _ p.length d.imm g) (linked_called x _ _ g)

      read_acts_left : (l' : Link) (r : Region) (k : ℕ) (o : Option Reth) → LeavesCalled (responder.read_acts c e l' r k o)
      read_acts_left l' r k None = same _ refl
      read_acts_left l' r k (Some x) = record { left = linked_called c e l' h }

      atomic_left : (l' : Link) (r : Region) (k : ℕ) (o : Option AtomicEth) → LeavesCalled (responder.atomic_acts c e l' d r k o)
      unfolding responder.atomic_done
      atomic_left l' r k None = same _ refl
      atomic_left l' r k (Some x) = record { left = linked_called _ e _ (written_called c _ _ _ h) }

      packet_left : (l' : Link) (r : Region) (k : ℕ) → LeavesCalled (responder.packet_acts c e l' d r k)
      unfolding responder.packet_acts
      packet_left l' r k =
          if_left (responder.is_send d.opcode) _ _ (acts_left _ l' k (send_called _ l' _ _ (landed_called c _ _ _ h)))
          (if_left (responder.is_write d.opcode) _ _ (acts_left _ l' k (write_called _ l' _ _ (written_called c _ _ _ h)))
          (if_left (responder.is_read_request d.opcode) _ _ (read_acts_left l' r k d.reth) (atomic_left l' r k d.atomic)))

      target_left : (k : ℕ) (o : Option Region) → LeavesCalled (responder.granted_packet c e l d k o)
      unfolding responder.not_ready
      target_left k None = refused_left k refused.Access
      target_left k (Some r) =
          if_left (responder.is_not_ready e d) _ _ (same _ refl)
          (if_left (responder.is_too_long e l d) _ _ (length_left k) (packet_left (responder.executed l d) r k))

      expected_left : (k : ℕ) → LeavesCalled (responder.expected_packet c e l d k)
      unfolding responder.expected_packet
      expected_left k =
          if_left (nat_le number_limit (k + responder.span_of_packet d l.terms.mtu d.reth)) (responder.no_repeat c) _ (same _ refl)
          (if_left (responder.is_invalid l d) _ _ (refused_left k refused.Invalid) (target_left k (responder.target c e d)))

      request_left : (o : Option ℕ) → LeavesCalled (responder.request_at c e l d o)
      request_left None = same _ refl
      request_left (Some k) = if_left (nat_lt l.receiver.expected k) _ _ ahead_left (if_left (nat_lt k l.receiver.expected) _ _ (repeated_left k) (expected_left k))

      -- ---- responses

      moved_left : (s : Sender) → LeavesCalled (requester.moved_or_useless l s c (telling c e l s))
      moved_left s = if_left (nat_lt l.sender.una s.una) (stays (telling c e l s) took.Acked) (requester.useless c) (record { left = telling_called c e l s h }) (same _ refl)

      back_left : (s : Sender) → LeavesCalled (requester.goes_back c e l s)
      back_left s = record { left = telling_called c e l _ h }

      ends_left : (s : Sender) (st : WcStatus) → LeavesCalled (requester.ends_after c e l s st)
      ends_left s st = record { left = ended_called _ e _ st (completing_called c _ _ h) }

      refusal_left : (s : Sender) (k : ℕ) (st : WcStatus) → LeavesCalled (requester.takes_refusal c e l s k st)
      unfolding requester.takes_refusal
      refusal_left s k st = if_left (s.una == k) (requester.ends_after c e l s st) (requester.goes_back c e l s) (ends_left s st) (back_left s)

      waits_left : (s : Sender) → LeavesCalled (requester.waits_again c e l s)
      unfolding requester.waits_again
      waits_left s =
          if_left (not (l.terms.rnr == 7) && s.waits == l.terms.rnr + 1) (requester.ends_after c e l s status.RnrExceeded) (stays (telling c e l (waiting s)) took.Waits)
          (ends_left s status.RnrExceeded) (record { left = telling_called c e l _ h })

      rnr_left : (s : Sender) (k : ℕ) → LeavesCalled (requester.takes_rnr c e l s k)
      unfolding requester.takes_rnr
      rnr_left s k = if_left (s.una == k) _ _ (waits_left (waited s)) (moved_left s)

      nak_left : (k code : ℕ) → LeavesCalled (requester.takes_nak c e l k code)
      unfolding requester.takes_nak
      nak_left k code =
          if_left (code == 0) (requester.goes_back c e l (acknowledged l k)) _ (back_left (acknowledged l k))
          (if_left (code == 1) _ _ (refusal_left (acknowledged l k) k status.RemoteInvalid)
          (if_left (code == 2) _ (requester.useless c) (refusal_left (acknowledged l k) k status.RemoteAccess) (same _ refl)))

      syndrome_left : (k : ℕ) (s : Syndrome) → LeavesCalled (requester.takes_syndrome c e l k s)
      unfolding requester.takes_ack
      syndrome_left k Ack = moved_left (acknowledged l (k + 1))
      syndrome_left k Rnr = if_left l.sender.rnr_wait (requester.useless c) _ (same _ refl) (rnr_left (acknowledged l k) k)
      syndrome_left k (Nak code) = nak_left k code

      aeth_left : (k : ℕ) (o : Option Aeth) → LeavesCalled (requester.takes_aeth c e l k o)
      aeth_left k None = same _ refl
      aeth_left k (Some x) = if_left (nat_le l.sender.una k && nat_lt k l.sender.top) _ (requester.useless c) (syndrome_left k x.syndrome) (same _ refl)

      landing_called : (x : Piece) → IsCalled (requester.landing c l d x)
      landing_called x = if_called (is_read x.posted.request.shape.kind) _ _ (landed_called c _ _ _ h) (landed_called c _ _ _ h)

      piece_left : (k : ℕ) (o : Option Piece) → LeavesCalled (requester.takes_piece c e l d k o)
      unfolding requester.takes_piece
      piece_left k None = same _ refl
      piece_left k (Some x) =
          if_left (requester.is_this_piece l d x) (stays (telling (requester.landing c l d x) e l (advanced l.sender (k + 1))) took.Landed) (requester.useless c)
          (record { left = telling_called _ e l _ (landing_called x) }) (same _ refl)

      response_left : (o : Option ℕ) → LeavesCalled (requester.response_at c e l d o)
      unfolding requester.takes_landing
      response_left None = same _ refl
      response_left (Some k) =
          if_left (is_read_response d.opcode || d.opcode == 0x12) _ _
          (if_left (k == requester.barrier l.terms l.sender && nat_lt k l.sender.top) (requester.takes_piece c e l d k (piece_at l.sender.untold l.terms.mtu (k - l.sender.first))) (requester.useless c) (piece_left k _) (same _ refl))
          (aeth_left k d.aeth)

      other_left : LeavesCalled (takes_other c e l d)
      unfolding responder.takes_request requester.takes_response
      other_left =
          if_left (is_request d.opcode) _ (requester.takes_response c e l d)
          (if_left (is_paused l.moving.phase) (silent c why.Paused) _ (same _ refl) (request_left (unwrap_near l.terms.peer_start d.psn l.receiver.expected)))
          (response_left (unwrap_near l.terms.own_start d.psn l.sender.una))

    -- ---- messages of moving

    row_left : (m : Control) (r : MoveTook) → LeavesCalled (moves_by c e l m r)
    unfolding moves_by
    row_left (Stopped count) GoesPaused = record { left = linked_called c e _ h }
    row_left (Stopped count) Resumed = same _ refl
    row_left (Stopped count) Again = same _ refl
    row_left (Stopped count) GoesRunning = same _ refl
    row_left (Stopped count) Stale = same _ refl
    row_left (Resume body) Resumed = record { left = linked_called c e _ h }
    row_left (Resume body) Again = same _ refl
    row_left (Resume body) GoesPaused = same _ refl
    row_left (Resume body) GoesRunning = same _ refl
    row_left (Resume body) Stale = same _ refl
    row_left (ResumeAck count) GoesRunning = record { left = linked_called c e _ h }
    row_left (ResumeAck count) GoesPaused = same _ refl
    row_left (ResumeAck count) Resumed = same _ refl
    row_left (ResumeAck count) Again = same _ refl
    row_left (ResumeAck count) Stale = same _ refl

    kind_left : (d : Packet) (o : Option Control) → LeavesCalled (takes_kind c e l d o)
    unfolding takes_control
    kind_left d None = other_left d
    kind_left d (Some m) = row_left m (move_row l.moving m)

    takes_left : (d : Packet) → LeavesCalled (takes c e l d)
    unfolding takes
    takes_left d = if_left l.ended (silent c why.Ended) _ (same _ refl) (kind_left d (control_of d))

pub taken_name : (c : Context) (e : End) (l : Link) (d : Packet) → (takes c e l d).context.name ≡ c.name
taken_name c e l d = (takes_left c.name c e l (record { is = refl }) d).left.is

pub ended_name : (c : Context) (e : End) (l : Link) (s : WcStatus) → (ended_with c e l s).name ≡ c.name
ended_name c e l s = (ended_called c.name c e l s (record { is = refl })).is
