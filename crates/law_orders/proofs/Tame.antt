-- What an arrival does to the ends of a context: an end in Error keeps the number that it expects, and only an end that was
-- Resuming is.
use Rattle.std.proofs.Common.{◌≡◌, ◌≤◌, ◌<◌, ℕ, ◌+◌, List, [], ◌∷◌, Bool, true, false, Option, Some, None, refl, if◌then◌else◌, bytes_eq, is_some}
use Rattle.std.specs.Prelude.{◌==◌, ◌&&◌, ◌||◌, not, nat_le, nat_lt}
use Rattle.rdma_types.specs.declared.answers.DropReason.TheVariants as why
use Rattle.rdma_types.specs.declared.answers.RefusalReason.{RefusalReason}
use Rattle.rdma_types.specs.declared.answers.RefusalReason.TheVariants as refused
use Rattle.rdma_types.specs.declared.names.Name.{Name}
use Rattle.rdma_types.specs.declared.requests.Completion.{Completion}
use Rattle.rdma_types.specs.declared.requests.WcStatus.{WcStatus}
use Rattle.rdma_types.specs.declared.requests.WcStatus.TheVariants as status
use Rattle.rdma_types.specs.declared.requests.Receive.{Receive}
use Rattle.rdma_types.specs.Lists.{store_named}
use Rattle.rdma_types.specs.Limits.{number_limit}
use Rattle.rdma_types.specs.Objects.{Region}
use Rattle.rdma_types.specs.Spans.{Piece, pieces}
use Rattle.rdma_types.specs.Kinds.{is_read}
use Rattle.protocol.specs.declared.wire.Aeth.{Aeth}
use Rattle.protocol.specs.declared.wire.AtomicEth.{AtomicEth}
use Rattle.protocol.specs.declared.wire.Reth.{Reth}
use Rattle.protocol.specs.declared.wire.ResumeBody.{ResumeBody}
use Rattle.protocol.specs.declared.wire.Syndrome.{Syndrome}
use Rattle.protocol.specs.declared.wire.Syndrome.TheVariants.{Ack, Rnr, Nak}
use Rattle.protocol.specs.declared.images.KeptReply.{KeptReply}
use Rattle.protocol.specs.EndWords as words
use Rattle.protocol.specs.EndWords.{EndStep, is_paused, linked, with_sender, with_receiver, with_moving, with_unused, completing, stays, silent}
use Rattle.protocol.specs.EndStep.{takes, takes_kind, takes_other}
use Rattle.protocol.specs.Memory.{written, landed, with_region}
use Rattle.protocol.specs.Moves.{Control, Stopped, Resume, ResumeAck, MoveTook, GoesPaused, Resumed, GoesRunning, control_of, moves_by, resumed_link, takes_control, unpaused}
use Rattle.protocol.specs.Requester as requester
use Rattle.protocol.specs.Requester.{ended_link, ended_with, telling, takes_response}
use Rattle.protocol.specs.Responder as responder
use Rattle.protocol.specs.Responder.{takes_request}
use Rattle.protocol.specs.State.{Sender, Receiver, Link, End, Context, Phase, Running, Paused, Resuming, Progress, NoMessage}
use Rattle.protocol.specs.Wire.{Packet, is_read_response, is_request}

-- each thing of a list has a fact
abbrev pub AllOf : {A : Type 0} → (A → Type 0) → List A → Type 0
AllOf P [] = Unit {0}
AllOf P (x ∷ xs) = P x × AllOf P xs

pub all_stored : {A : Type 0} (P : A → Type 0) (name : A → Name) (n : Name) (e : A) (xs : List A) → AllOf P xs → P e → AllOf P (store_named name n e xs)
unfolding store_named
all_stored P name n e [] all h = (h, tt)
all_stored {A} P name n e (x ∷ xs) all h = by (bytes_eq (name x) n) (all_stored P name n e xs all.1 h)
  where
    by : (b : Bool) → AllOf P (store_named name n e xs) → AllOf P (if b then e ∷ xs else x ∷ store_named name n e xs)
    by true later = (h, all.1)
    by false later = (all.0, later)

-- numbers from here on are those of the second device, on which the context that moves was made
abbrev pub of_two : ℕ
of_two = 131072

-- a link of a context that may move, or of one that does not: only one that may move is Resuming, its partner has a lower
-- number, and one in Error expects no number past n
pub record IsTame (n : ℕ) (moves : Bool) (l : Link) : Type 0 where
  pub peer : moves ≡ true → l.peer < of_two
  pub resuming : l.moving.phase ≡ Resuming → moves ≡ true
  pub ended : l.ended ≡ true → l.receiver.expected ≤ n

abbrev pub IsTameLink : ℕ → Bool → Option Link → Type 0
IsTameLink n moves None = Unit {0}
IsTameLink n moves (Some l) = IsTame n moves l

-- an end
pub record IsTameEnd (n : ℕ) (moves : Bool) (e : End) : Type 0 where
  pub number : moves ≡ true → of_two ≤ e.number
  pub link : IsTameLink n moves e.link

-- a context of that name
pub record IsTameContext (n : ℕ) (moves : Bool) (name : Name) (c : Context) : Type 0 where
  pub named : c.name ≡ name
  pub ends : AllOf (IsTameEnd n moves) c.ends

module _ (n : ℕ) (moves : Bool) (name : Name) where
  abbrev Holds : Context → Type 0
  Holds = IsTameContext n moves name

  -- ---- parts that are changed

  pub linked_holds : (c : Context) (e : End) (l : Link) → Holds c → (moves ≡ true → of_two ≤ e.number) → IsTame n moves l → Holds (linked c e l)
  unfolding words.with_end words.with_link
  linked_holds c e l h number tame = record { named = h.named; ends = all_stored (IsTameEnd n moves) (λ x. x.name) e.name _ c.ends h.ends (record { number = number; link = tame }) }

  pub unused_holds : (c : Context) (e : End) (rs : List Receive) → Holds c → IsTameEnd n moves e → Holds (words.with_end c (with_unused e rs))
  unfolding words.with_end with_unused
  unused_holds c e rs h tame = record { named = h.named; ends = all_stored (IsTameEnd n moves) (λ x. x.name) e.name _ c.ends h.ends (record { number = tame.number; link = tame.link }) }

  pub queue_holds : (c : Context) (q : _) → Holds c → Holds (words.with_queue c q)
  unfolding words.with_queue
  queue_holds c q h = record { named = h.named; ends = h.ends }

  pub completing_holds : (c : Context) (q : Name) (more : List Completion) → Holds c → Holds (completing c q more)
  unfolding completing words.with_queue
  completing_holds c q more h = record { named = h.named; ends = h.ends }

  written_holds : (c : Context) (k off : ℕ) (bytes : List ℕ) → Holds c → Holds (written c k off bytes)
  unfolding written with_region
  written_holds c k off [] h = h
  written_holds c k off (b ∷ bs) h = record { named = h.named; ends = h.ends }

  landed_holds : (c : Context) (k at : ℕ) (bytes : List ℕ) → Holds c → Holds (landed c k at bytes)
  unfolding landed
  landed_holds c k at bytes h = written_holds c k _ bytes h

  if_holds : (b : Bool) (s t : EndStep) → Holds s.context → Holds t.context → Holds (if b then s else t).context
  if_holds true s t h k = h
  if_holds false s t h k = k

  if_context : (b : Bool) (s t : Context) → Holds s → Holds t → Holds (if b then s else t)
  if_context true s t h k = h
  if_context false s t h k = k

  -- ---- links

  -- a link in Rts that is tame
  pub record IsAlive (l : Link) : Type 0 where
    pub peer : moves ≡ true → l.peer < of_two
    pub resuming : l.moving.phase ≡ Resuming → moves ≡ true
    pub alive : l.ended ≡ false

  not_ended : (b : Bool) → b ≡ false → b ≡ true → ⊥
  not_ended true h k = cc
  not_ended false h k = cc

  pub alive_tame : (l : Link) → IsAlive l → IsTame n moves l
  alive_tame l a = record { peer = a.peer; resuming = a.resuming; ended = λ h. absurd (not_ended l.ended a.alive h) }

  sender_alive : (l : Link) (s : Sender) → IsAlive l → IsAlive (with_sender l s)
  unfolding with_sender
  sender_alive l s a = record { peer = a.peer; resuming = a.resuming; alive = a.alive }

  receiver_alive : (l : Link) (r : Receiver) → IsAlive l → IsAlive (with_receiver l r)
  unfolding with_receiver
  receiver_alive l r a = record { peer = a.peer; resuming = a.resuming; alive = a.alive }

  running_not : Running ≡ Resuming → ⊥
  running_not h = cc

  ended_tame : (l : Link) → (moves ≡ true → l.peer < of_two) → l.receiver.expected ≤ n → IsTame n moves (ended_link l)
  unfolding ended_link
  ended_tame l peer few = record { peer = peer; resuming = λ h. absurd (running_not h); ended = λ h. few }

  pub ended_holds : (c : Context) (e : End) (l : Link) (s : WcStatus) → Holds c → (moves ≡ true → of_two ≤ e.number) → (moves ≡ true → l.peer < of_two) → l.receiver.expected ≤ n → Holds (ended_with c e l s)
  unfolding ended_with with_unused
  ended_holds c e l s h number peer few = completing_holds _ e.recv_cq _ (completing_holds _ e.send_cq _ (linked_holds c (with_unused e []) (ended_link l) h number (ended_tame l peer few)))

  -- ---- an end in Rts takes a packet

  module _ (e : End) (number : moves ≡ true → of_two ≤ e.number) where
    telling_holds : (c : Context) (l : Link) (s : Sender) → Holds c → IsAlive l → Holds (telling c e l s)
    unfolding telling
    telling_holds c l s h a = completing_holds _ e.send_cq _ (linked_holds c e (with_sender l (requester.after_telling l.terms s)) h number (alive_tame _ (sender_alive l _ a)))

    ends_after_holds : (c : Context) (l : Link) (s : Sender) (x : WcStatus) → Holds c → IsAlive l → l.receiver.expected ≤ n → Holds (requester.ends_after c e l s x).context
    unfolding with_sender
    ends_after_holds c l s x h a few = ended_holds _ e (with_sender l (requester.after_telling l.terms s)) x (completing_holds c e.send_cq _ h) number a.peer few

    module _ (c : Context) (l : Link) (h : Holds c) (a : IsAlive l) (few : l.receiver.expected ≤ n) where
      moved_holds : (s : Sender) → Holds (requester.moved_or_useless l s c (telling c e l s)).context
      moved_holds s = if_holds (nat_lt l.sender.una s.una) _ _ (telling_holds c l s h a) h

      refusal_holds : (s : Sender) (k : ℕ) (x : WcStatus) → Holds (requester.takes_refusal c e l s k x).context
      unfolding requester.takes_refusal
      refusal_holds s k x = if_holds (s.una == k) _ _ (ends_after_holds c l s x h a few) (telling_holds c l _ h a)

      nak_holds : (k code : ℕ) → Holds (requester.takes_nak c e l k code).context
      unfolding requester.takes_nak
      nak_holds k code =
          if_holds (code == 0) _ _ (telling_holds c l _ h a)
          (if_holds (code == 1) _ _ (refusal_holds _ k status.RemoteInvalid) (if_holds (code == 2) _ _ (refusal_holds _ k status.RemoteAccess) h))

      waits_holds : (s : Sender) → Holds (requester.waits_again c e l s).context
      unfolding requester.waits_again
      waits_holds s = if_holds (not (l.terms.rnr == 7) && s.waits == l.terms.rnr + 1) _ _ (ends_after_holds c l s status.RnrExceeded h a few) (telling_holds c l _ h a)

      rnr_holds : (s : Sender) (k : ℕ) → Holds (requester.takes_rnr c e l s k).context
      unfolding requester.takes_rnr
      rnr_holds s k = if_holds (s.una == k) _ _ (waits_holds _) (moved_holds s)

      syndrome_holds : (k : ℕ) (s : Syndrome) → Holds (requester.takes_syndrome c e l k s).context
      unfolding requester.takes_ack
      syndrome_holds k Ack = moved_holds _
      syndrome_holds k Rnr = if_holds l.sender.rnr_wait _ _ h (rnr_holds _ k)
      syndrome_holds k (Nak code) = nak_holds k code

      aeth_holds : (k : ℕ) (o : Option Aeth) → Holds (requester.takes_aeth c e l k o).context
      aeth_holds k None = h
      aeth_holds k (Some x) = if_holds (nat_le l.sender.una k && nat_lt k l.sender.top) _ _ (syndrome_holds k x.syndrome) h

      landing_holds : (d : Packet) (x : Piece) → Holds (requester.landing c l d x)
      landing_holds d x = if_context (is_read x.posted.request.shape.kind) _ _ (landed_holds c _ _ _ h) (landed_holds c _ _ _ h)

      piece_holds : (d : Packet) (k : ℕ) (o : Option Piece) → Holds (requester.takes_piece c e l d k o).context
      unfolding requester.takes_piece
      piece_holds d k None = h
      piece_holds d k (Some x) = if_holds (requester.is_this_piece l d x) _ _ (telling_holds _ l _ (landing_holds d x) a) h

      response_at_holds : (d : Packet) (o : Option ℕ) → Holds (requester.response_at c e l d o).context
      unfolding requester.takes_landing
      response_at_holds d None = h
      response_at_holds d (Some k) =
          if_holds (is_read_response d.opcode || d.opcode == 0x12) _ _ (if_holds (k == requester.barrier l.terms l.sender && nat_lt k l.sender.top) _ _ (piece_holds d k _) h) (aeth_holds k d.aeth)

      response_holds : (d : Packet) → Holds (takes_response c e l d).context
      unfolding takes_response
      response_holds d = response_at_holds d _

      -- ---- requests

      answers_read_holds : (o : Option Region) (x : Reth) (k : ℕ) → Holds (responder.answers_read c l o x k).context
      answers_read_holds None x k = h
      answers_read_holds (Some r) x k = h

      repeats_read_holds : (o : Option Reth) (k : ℕ) → Holds (responder.repeats_read c e l o k).context
      repeats_read_holds None k = h
      repeats_read_holds (Some x) k = if_holds (nat_le (k + pieces x.length l.terms.mtu) l.receiver.expected) _ _ (answers_read_holds _ x k) h

      answers_old_holds : (k : ℕ) (o : Option KeptReply) → Holds (responder.answers_old c l k o).context
      answers_old_holds k None = h
      answers_old_holds k (Some x) = h

      repeated_holds : (d : Packet) (k : ℕ) → Holds (responder.repeated c e l d k).context
      unfolding responder.repeated
      repeated_holds d k = if_holds (responder.is_read_request d.opcode) _ _ (repeats_read_holds d.reth k) (if_holds (is_some d.atomic) _ _ (answers_old_holds k _) h)

      ahead_holds : Holds (responder.ahead c e l).context
      unfolding responder.ahead
      ahead_holds = if_holds l.receiver.nak_sent _ _ h (linked_holds c e _ h number (alive_tame _ (receiver_alive l _ a)))

      refuses_holds : (k : ℕ) (x : RefusalReason) → Holds (responder.refuses c e l k x).context
      refuses_holds k x = ended_holds c e l status.Flush h number a.peer few

      length_holds : (k : ℕ) → Holds (responder.refuses_length c e l k).context
      unfolding responder.refuses_length with_unused with_receiver
      length_holds k = ended_holds _ (with_unused e _) (responder.idled l) status.Flush (completing_holds c e.recv_cq _ h) number a.peer few

    acts_holds : (c : Context) (l : Link) (d : Packet) (k : ℕ) → Holds c → Holds (responder.acts c l d k).context
    acts_holds c l d k h = if_holds (responder.finishes (responder.part_of d.opcode) || d.ack_request) _ _ h h

    -- the link of a packet that acted
    module _ (l : Link) (a : IsAlive l) where
      progress_tame : (p : Progress) → IsTame n moves (responder.in_progress l p)
      progress_tame p = alive_tame _ (receiver_alive l _ a)

      send_done_holds : (c : Context) (d : Packet) (r : Receive) (done : ℕ) → Holds c → Holds (responder.send_done c e l d r done)
      unfolding responder.send_done with_unused
      send_done_holds c d r done h =
          if_context (responder.finishes (responder.part_of d.opcode)) _ _
          (completing_holds _ e.recv_cq _ (linked_holds c (with_unused e _) _ h number (progress_tame NoMessage)))
          (linked_holds c (with_unused e _) _ h number (progress_tame _))

      immediate_holds : (c : Context) (p : Progress) (count : ℕ) (o : Option ℕ) → Holds c → Holds (responder.with_immediate c e (responder.in_progress l p) count o)
      unfolding with_unused
      immediate_holds c p count None h = linked_holds c e _ h number (progress_tame p)
      immediate_holds c p count (Some imm) h = completing_holds _ e.recv_cq _ (linked_holds c (with_unused e _) _ h number (progress_tame p))

      write_done_holds : (c : Context) (d : Packet) (p : responder.Place) (done : ℕ) → Holds c → Holds (responder.write_done c e l d p done)
      unfolding responder.write_done
      write_done_holds c d p done h = if_context (responder.finishes (responder.part_of d.opcode)) _ _ (immediate_holds c NoMessage p.length d.imm h) (linked_holds c e _ h number (progress_tame _))

      read_holds : (c : Context) (r : Region) (k : ℕ) (o : Option Reth) → Holds c → Holds (responder.read_acts c e l r k o).context
      read_holds c r k None h = h
      read_holds c r k (Some x) h = linked_holds c e l h number (alive_tame l a)

      atomic_holds : (c : Context) (d : Packet) (r : Region) (k : ℕ) (o : Option AtomicEth) → Holds c → Holds (responder.atomic_acts c e l d r k o).context
      unfolding responder.atomic_done
      atomic_holds c d r k None h = h
      atomic_holds c d r k (Some x) h = linked_holds _ e _ (written_holds c _ _ _ h) number (alive_tame _ (receiver_alive l _ a))

      packet_holds : (c : Context) (d : Packet) (r : Region) (k : ℕ) → Holds c → Holds (responder.packet_acts c e l d r k).context
      unfolding responder.packet_acts
      packet_holds c d r k h =
          if_holds (responder.is_send d.opcode) _ _ (acts_holds _ l d k (send_done_holds _ d _ _ (landed_holds c _ _ _ h)))
          (if_holds (responder.is_write d.opcode) _ _ (acts_holds _ l d k (write_done_holds _ d _ _ (written_holds c _ _ _ h)))
          (if_holds (responder.is_read_request d.opcode) _ _ (read_holds c r k d.reth h) (atomic_holds c d r k d.atomic h)))

    module _ (c : Context) (l : Link) (h : Holds c) (a : IsAlive l) (few : l.receiver.expected ≤ n) where
      granted_holds : (d : Packet) (k : ℕ) (o : Option Region) → Holds (responder.granted_packet c e l d k o).context
      unfolding responder.not_ready responder.executed
      granted_holds d k None = refuses_holds c l h a few k refused.Access
      granted_holds d k (Some r) =
          if_holds (responder.is_not_ready e d) _ _ h (if_holds (responder.is_too_long e l d) _ _ (length_holds c l h a few k) (packet_holds (responder.executed l d) (receiver_alive l _ a) c d r k h))

      expected_holds : (d : Packet) (k : ℕ) → Holds (responder.expected_packet c e l d k).context
      unfolding responder.expected_packet
      expected_holds d k = if_holds (nat_le number_limit (k + responder.span_of_packet d l.terms.mtu d.reth)) _ _ h (if_holds (responder.is_invalid l d) _ _ (refuses_holds c l h a few k refused.Invalid) (granted_holds d k _))

      request_at_holds : (d : Packet) (o : Option ℕ) → Holds (responder.request_at c e l d o).context
      request_at_holds d None = h
      request_at_holds d (Some k) = if_holds (nat_lt l.receiver.expected k) _ _ (ahead_holds c l h a few) (if_holds (nat_lt k l.receiver.expected) _ _ (repeated_holds c l h a few d k) (expected_holds d k))

      request_holds : (d : Packet) → Holds (takes_request c e l d).context
      unfolding takes_request
      request_holds d = request_at_holds d _

      -- ---- messages of moving

      unpaused_is : (p : Phase) → unpaused p ≡ Resuming → p ≡ Resuming
      unpaused_is Running q = absurd (cc)
      unpaused_is Paused q = absurd (cc)
      unpaused_is Resuming q = refl

      paused_tame : IsTame n moves (with_moving l (record l.moving { phase = Paused }))
      unfolding with_moving
      paused_tame = alive_tame _ (record { peer = a.peer; resuming = λ q. absurd (cc); alive = a.alive })

      running_tame : IsTame n moves (with_moving l (record l.moving { phase = Running }))
      unfolding with_moving
      running_tame = alive_tame _ (record { peer = a.peer; resuming = λ q. absurd (cc); alive = a.alive })

      resumed_tame : (body : ResumeBody) → IsTame n moves (resumed_link l body)
      resumed_tame body = alive_tame _ (record { peer = a.peer; resuming = λ q. a.resuming (unpaused_is l.moving.phase q); alive = a.alive })

      moves_holds : (x : Control) (row : MoveTook) → Holds (moves_by c e l x row).context
      unfolding moves_by
      moves_holds (Stopped count) GoesPaused = linked_holds c e _ h number paused_tame
      moves_holds (Stopped count) other = h
      moves_holds (Resume body) Resumed = linked_holds c e _ h number (resumed_tame body)
      moves_holds (Resume body) other = h
      moves_holds (ResumeAck count) GoesRunning = linked_holds c e _ h number running_tame
      moves_holds (ResumeAck count) other = h

      other_holds : (d : Packet) → Holds (takes_other c e l d).context
      other_holds d = if_holds (is_request d.opcode) _ _ (if_holds (is_paused l.moving.phase) _ _ h (request_holds d)) (response_holds c l h a few d)

      kind_holds : (d : Packet) (o : Option Control) → Holds (takes_kind c e l d o).context
      unfolding takes_control
      kind_holds d (Some x) = moves_holds x _
      kind_holds d None = other_holds d

    pub takes_holds : (c : Context) (l : Link) (d : Packet) → Holds c → IsTame n moves l → l.receiver.expected ≤ n → Holds (takes c e l d).context
    unfolding takes
    takes_holds c l d h tame few = by l.ended refl
      where
        by : (b : Bool) → l.ended ≡ b → Holds (if b then silent c why.Ended else takes_kind c e l d (control_of d)).context
        by true is = h
        by false is = kind_holds c l h (record { peer = tame.peer; resuming = tame.resuming; alive = is }) few d (control_of d)
