-- An end that takes a packet leaves the name of its context.
use Rattle.std.proofs.Common.{◌≡◌, ℕ, ◌+◌, ◌-◌, ◌==◌, List, [], ◌∷◌, Bool, true, false, Option, Some, None, refl, ◌∙◌, is_some, if◌then◌else◌}
use Rattle.rdma_types.specs.declared.answers.ArrivalEffect.TheVariants as took
use Rattle.rdma_types.specs.declared.answers.RefusalReason.{RefusalReason}
use Rattle.rdma_types.specs.declared.answers.RefusalReason.TheVariants as refused
use Rattle.rdma_types.specs.declared.names.Name.{Name}
use Rattle.rdma_types.specs.declared.requests.Completion.{Completion}
use Rattle.rdma_types.specs.declared.requests.Receive.{Receive}
use Rattle.rdma_types.specs.declared.requests.WcStatus.{WcStatus}
use Rattle.rdma_types.specs.declared.requests.WcStatus.TheVariants as status
use Rattle.rdma_types.specs.Lists.{first_that}
use Rattle.rdma_types.specs.Objects.{Region}
use Rattle.rdma_types.specs.Spans.{Piece}
use Rattle.protocol.specs.declared.images.KeptReply.{KeptReply}
use Rattle.protocol.specs.declared.wire.Aeth.{Aeth}
use Rattle.protocol.specs.declared.wire.AtomicEth.{AtomicEth}
use Rattle.protocol.specs.declared.wire.Reth.{Reth}
use Rattle.protocol.specs.declared.wire.Syndrome.{Syndrome}
use Rattle.protocol.specs.declared.wire.Syndrome.TheVariants.{Ack, Rnr, Nak}
use Rattle.protocol.specs.EndStep as whole
use Rattle.protocol.specs.EndWords.{EndStep, completing, linked, with_end, with_queue}
use Rattle.protocol.specs.Memory.{landed, with_region, written}
use Rattle.protocol.specs.Moves.{Control, Stopped, Resume, ResumeAck, MoveTook, GoesPaused, Resumed, Again, GoesRunning, Stale, control_of, move_row, moves_by, takes_control}
use Rattle.protocol.specs.Requester.{acknowledged, ended_with, landing, response_at, takes_ack, takes_aeth, takes_landing, takes_nak, takes_piece, takes_refusal, takes_response, takes_rnr, takes_syndrome, telling, waits_again, goes_back, ends_after, useless}
use Rattle.protocol.specs.Responder.{Place, acknowledge, acts, is_read_request, ahead, answers_old, answers_read, atomic_acts, atomic_done, expected_packet, granted_packet, not_ready, packet_acts, read_acts, refuses, refuses_length, repeated, repeats_read, request_at, send_done, takes_request, with_immediate, write_done}
use Rattle.protocol.specs.State.{Context, End, Link, Sender}
use Rattle.protocol.specs.Wire.{Packet}

-- either of two steps leaves the name
either : (n : Name) (b : Bool) (s t : EndStep) → s.context.name ≡ n → t.context.name ≡ n → (if b then s else t).context.name ≡ n
either n true s t h k = h
either n false s t h k = k

pub either_one : (n : Name) (b : Bool) (c d : Context) → c.name ≡ n → d.name ≡ n → (if b then c else d).name ≡ n
either_one n true c d h k = h
either_one n false c d h k = k

-- ---- parts of a context

pub completing-named : (c : Context) (q : Name) (more : List Completion) → (completing c q more).name ≡ c.name
unfolding completing with_queue
completing-named c q more = refl

pub linked-named : (c : Context) (e : End) (l : Link) → (linked c e l).name ≡ c.name
unfolding with_end
linked-named c e l = refl

written-named : (c : Context) (k off : ℕ) (bytes : List ℕ) → (written c k off bytes).name ≡ c.name
unfolding written with_region
written-named c k off [] = refl
written-named c k off (b ∷ bs) = refl

landed-named : (c : Context) (k at : ℕ) (bytes : List ℕ) → (landed c k at bytes).name ≡ c.name
unfolding landed
landed-named c k at bytes = written-named c k _ bytes

telling-named : (c : Context) (e : End) (l : Link) (s : Sender) → (telling c e l s).name ≡ c.name
unfolding telling completing with_queue with_end
telling-named c e l s = refl

pub ended-named : (c : Context) (e : End) (l : Link) (s : WcStatus) → (ended_with c e l s).name ≡ c.name
unfolding ended_with completing with_queue with_end
ended-named c e l s = refl

-- ---- responses

module _ (c : Context) (e : End) (l : Link) where
  back-named : (s : Sender) → (goes_back c e l s).context.name ≡ c.name
  unfolding telling completing with_queue with_end
  back-named s = refl

  after-named : (s : Sender) (x : WcStatus) → (ends_after c e l s x).context.name ≡ c.name
  unfolding ended_with completing with_queue with_end
  after-named s x = refl

  ack-named : (n : ℕ) → (takes_ack c e l n).context.name ≡ c.name
  unfolding takes_ack
  ack-named n = either c.name _ _ _ (telling-named c e l _) refl

  refusal-named : (s : Sender) (n : ℕ) (x : WcStatus) → (takes_refusal c e l s n x).context.name ≡ c.name
  unfolding takes_refusal
  refusal-named s n x = either c.name _ _ _ (after-named s x) (back-named s)

  again-named : (s : Sender) → (waits_again c e l s).context.name ≡ c.name
  unfolding waits_again
  again-named s = either c.name _ _ _ (after-named s _) (telling-named c e l _)

  rnr-named : (s : Sender) (n : ℕ) → (takes_rnr c e l s n).context.name ≡ c.name
  unfolding takes_rnr
  rnr-named s n = either c.name _ _ _ (again-named _) (either c.name _ _ _ (telling-named c e l s) refl)

  nak-named : (n code : ℕ) → (takes_nak c e l n code).context.name ≡ c.name
  unfolding takes_nak
  nak-named n code = by (code == 0) (code == 1) (code == 2)
    where
      by : (x y z : Bool) → (if x then goes_back c e l (acknowledged l n) else if y then takes_refusal c e l (acknowledged l n) n status.RemoteInvalid else if z then takes_refusal c e l (acknowledged l n) n status.RemoteAccess else useless c).context.name ≡ c.name
      by true y z = back-named (acknowledged l n)
      by false true z = refusal-named (acknowledged l n) n status.RemoteInvalid
      by false false true = refusal-named (acknowledged l n) n status.RemoteAccess
      by false false false = refl

  syndrome-named : (n : ℕ) (s : Syndrome) → (takes_syndrome c e l n s).context.name ≡ c.name
  syndrome-named n Ack = ack-named (n + 1)
  syndrome-named n Rnr = either c.name _ _ _ refl (rnr-named _ n)
  syndrome-named n (Nak code) = nak-named n code

  aeth-named : (n : ℕ) (h : Option Aeth) → (takes_aeth c e l n h).context.name ≡ c.name
  aeth-named n None = refl
  aeth-named n (Some h) = either c.name _ _ _ (syndrome-named n h.syndrome) refl

  landing-named : (d : Packet) (x : Piece) → (landing c l d x).name ≡ c.name
  landing-named d x = either_one c.name _ _ _ (landed-named c _ _ _) (landed-named c _ _ _)

  piece-named : (d : Packet) (n : ℕ) (x : Option Piece) → (takes_piece c e l d n x).context.name ≡ c.name
  unfolding takes_piece
  piece-named d n None = refl
  piece-named d n (Some x) = either c.name _ _ _ (telling-named (landing c l d x) e l _ ∙ landing-named d x) refl

  at-barrier-named : (d : Packet) (n : ℕ) → (takes_landing c e l d n).context.name ≡ c.name
  unfolding takes_landing
  at-barrier-named d n = either c.name _ _ _ (piece-named d n _) refl

  response-named : (d : Packet) (n : Option ℕ) → (response_at c e l d n).context.name ≡ c.name
  response-named d None = refl
  response-named d (Some n) = either c.name _ _ _ (at-barrier-named d n) (aeth-named n d.aeth)

-- ---- requests

acts-named : (c : Context) (l : Link) (d : Packet) (n : ℕ) → (acts c l d n).context.name ≡ c.name
acts-named c l d n = either c.name _ _ _ refl refl

read-again-named : (c : Context) (l : Link) (r : Option Region) (h : Reth) (n : ℕ) → (answers_read c l r h n).context.name ≡ c.name
read-again-named c l None h n = refl
read-again-named c l (Some r) h n = refl

old-named : (c : Context) (l : Link) (n : ℕ) (k : Option KeptReply) → (answers_old c l n k).context.name ≡ c.name
old-named c l n None = refl
old-named c l n (Some k) = refl

immediate-named : (c : Context) (e : End) (l : Link) (length : ℕ) (imm : Option ℕ) → (with_immediate c e l length imm).name ≡ c.name
unfolding completing with_queue with_end
immediate-named c e l length None = refl
immediate-named c e l length (Some imm) = refl

sent-named : (c : Context) (e : End) (l : Link) (d : Packet) (r : Receive) (done : ℕ) → (send_done c e l d r done).name ≡ c.name
unfolding send_done completing with_queue with_end
sent-named c e l d r done = either_one c.name _ _ _ refl refl

wrote-named : (c : Context) (e : End) (l : Link) (d : Packet) (p : Place) (done : ℕ) → (write_done c e l d p done).name ≡ c.name
unfolding write_done
wrote-named c e l d p done = either_one c.name _ _ _ (immediate-named c e _ p.length d.imm) (linked-named c e _)

refuses-named : (c : Context) (e : End) (l : Link) (n : ℕ) (w : RefusalReason) → (refuses c e l n w).context.name ≡ c.name
refuses-named c e l n w = ended-named c e l _

module _ (c : Context) (e : End) (l : Link) where
  ahead-named : (ahead c e l).context.name ≡ c.name
  unfolding ahead with_end
  ahead-named = either c.name _ _ _ refl refl

  reads-again-named : (h : Option Reth) (n : ℕ) → (repeats_read c e l h n).context.name ≡ c.name
  reads-again-named None n = refl
  reads-again-named (Some h) n = either c.name _ _ _ (read-again-named c l _ h n) refl

  repeated-named : (d : Packet) (n : ℕ) → (repeated c e l d n).context.name ≡ c.name
  unfolding repeated
  repeated-named d n = by (is_read_request d.opcode) (is_some d.atomic)
    where
      by : (x y : Bool) → (if x then repeats_read c e l d.reth n else if y then answers_old c l n (first_that (λ k. k.number == n) l.receiver.kept) else (let s : EndStep = record { context = c; took = took.DupAck; sent = acknowledge l (l.receiver.expected - 1) Ack ∷ [] } in s)).context.name ≡ c.name
      by true y = reads-again-named d.reth n
      by false true = old-named c l n (first_that (λ k. k.number == n) l.receiver.kept)
      by false false = refl

  too-long-named : (n : ℕ) → (refuses_length c e l n).context.name ≡ c.name
  unfolding refuses_length
  too-long-named n = refuses-named (completing c e.recv_cq _) _ _ n refused.Length ∙ completing-named c e.recv_cq _

  read-named : (r : Region) (n : ℕ) (h : Option Reth) → (read_acts c e l r n h).context.name ≡ c.name
  unfolding with_end
  read-named r n None = refl
  read-named r n (Some h) = refl

  atomic-named : (d : Packet) (r : Region) (n : ℕ) (h : Option AtomicEth) → (atomic_acts c e l d r n h).context.name ≡ c.name
  unfolding atomic_done
  atomic-named d r n None = refl
  atomic-named d r n (Some h) = linked-named (written c r.keys.local _ _) e _ ∙ written-named c r.keys.local _ _

  packet-named : (d : Packet) (r : Region) (n : ℕ) → (packet_acts c e l d r n).context.name ≡ c.name
  unfolding packet_acts
  packet-named d r n =
      either c.name _ _ _ (acts-named (send_done (landed c _ _ d.payload) e l d _ _) l d n ∙ (sent-named (landed c _ _ d.payload) e l d _ _ ∙ landed-named c _ _ d.payload))
      (either c.name _ _ _ (acts-named (write_done (written c _ _ d.payload) e l d _ _) l d n ∙ (wrote-named (written c _ _ d.payload) e l d _ _ ∙ written-named c _ _ d.payload))
      (either c.name _ _ _ (read-named r n d.reth) (atomic-named d r n d.atomic)))

module _ (c : Context) (e : End) (l : Link) where
  granted-named : (d : Packet) (n : ℕ) (r : Option Region) → (granted_packet c e l d n r).context.name ≡ c.name
  unfolding not_ready
  granted-named d n None = refuses-named c e l n refused.Access
  granted-named d n (Some r) = either c.name _ _ _ refl (either c.name _ _ _ (too-long-named c e l n) (packet-named c e _ d r n))

  expected-named : (d : Packet) (n : ℕ) → (expected_packet c e l d n).context.name ≡ c.name
  unfolding expected_packet
  expected-named d n = either c.name _ _ _ refl (either c.name _ _ _ (refuses-named c e l n refused.Invalid) (granted-named d n _))

  request-named : (d : Packet) (n : Option ℕ) → (request_at c e l d n).context.name ≡ c.name
  request-named d None = refl
  request-named d (Some n) = either c.name _ _ _ (ahead-named c e l) (either c.name _ _ _ (repeated-named c e l d n) (expected-named d n))

  -- ---- messages of moving

  moves-named : (x : Control) (t : MoveTook) → (moves_by c e l x t).context.name ≡ c.name
  unfolding moves_by with_end
  moves-named (Stopped count) GoesPaused = refl
  moves-named (Stopped count) Resumed = refl
  moves-named (Stopped count) Again = refl
  moves-named (Stopped count) GoesRunning = refl
  moves-named (Stopped count) Stale = refl
  moves-named (Resume body) GoesPaused = refl
  moves-named (Resume body) Resumed = refl
  moves-named (Resume body) Again = refl
  moves-named (Resume body) GoesRunning = refl
  moves-named (Resume body) Stale = refl
  moves-named (ResumeAck count) GoesPaused = refl
  moves-named (ResumeAck count) Resumed = refl
  moves-named (ResumeAck count) Again = refl
  moves-named (ResumeAck count) GoesRunning = refl
  moves-named (ResumeAck count) Stale = refl

  -- ---- every packet

  kind-named : (d : Packet) (x : Option Control) → (whole.takes_kind c e l d x).context.name ≡ c.name
  unfolding takes_control takes_request takes_response
  kind-named d (Some x) = moves-named x (move_row l.moving x)
  kind-named d None = either c.name _ _ _ (either c.name _ _ _ refl (request-named d _)) (response-named c e l d _)

  pub takes-named : (d : Packet) → (whole.takes c e l d).context.name ≡ c.name
  unfolding whole.takes
  takes-named d = either c.name _ _ _ refl (kind-named d (control_of d))
