-- The expected piece of a Write, where the machine may run it: the whole step.
use Rattle.std.proofs.Common.{arith, ◌≡◌, ◌<◌, ◌≤◌, ◌+◌, ◌/◌, ◌%◌, ℕ, suc, List, [], ◌∷◌, map, length, true, false, Bool, refl, sym, ap, ◌∙◌, subst}
use Rattle.std.specs.Prelude.{Option, Some, None, if◌then◌else◌, is_some, not, nat_lt, nat_le, ◌&&◌, ◌||◌, All, Contains, drop, slice_get}
use Rattle.std.proofs.lemmas.List.Elements.{All-nil, All-cons, All-weaker, All-take, All-drop}
use Rattle.rdma_types.specs.declared.names.Name.{Name}
use Rattle.rdma_types.specs.declared.names.ObjName.{ObjName}
use Rattle.rdma_types.specs.declared.answers.ArrivalEffect.TheVariants as took
use Rattle.rdma_types.specs.declared.requests.Completion.{Completion}
use Rattle.rdma_types.specs.declared.requests.Receive.{Receive}
use Rattle.rdma_types.specs.declared.requests.WcKind.TheVariants as wc
use Rattle.rdma_types.specs.declared.requests.WcStatus.TheVariants as status
use Rattle.rdma_types.specs.Kinds as kinds
use Rattle.rdma_types.specs.Kinds.{kind_of, size_of, receive_done}
use Rattle.rdma_types.specs.Limits.{number_limit}
use Rattle.rdma_types.specs.Lists.{has_name, store_named}
use Rattle.rdma_types.specs.Memory.{cut, is_granted, remote_key}
use Rattle.rdma_types.specs.Objects.{CompletionQueue, Posted, Region}
use Rattle.protocol.specs.declared.wire.Syndrome.TheVariants.{Ack}
use Rattle.protocol.specs.State as state
use Rattle.protocol.specs.State.{World, Link, Receiver, Progress, NoMessage, InSend, InWrite}
use Rattle.protocol.specs.Memory.{written}
use Rattle.protocol.specs.Segments.{is_first_piece, is_last_piece}
use Rattle.protocol.specs.Wire.{Packet}
use Rattle.protocol.specs.EndWords as words
use Rattle.protocol.specs.EndWords.{is_paused}
use Rattle.rdma_types.specs.declared.answers.RefusalReason.TheVariants as whys
use Rattle.protocol.specs.Responder.{finished, begins, no_repeat, refuses, not_ready, is_too_long, refuses_length, receive_of, bytes_before, send_acts, read_acts, atomic_acts, with_immediate, Place, expected_packet, granted_packet, packet_acts, write_acts, write_done, acts, executed, in_progress, is_invalid, target, is_not_ready, is_send, is_write, is_read_request, span_of_packet, place_of, part_of, finishes, acknowledge, is_empty, front}
use Rattle.protocol.specs.EndStep.{takes}
use Rattle.protocol.specs.DeviceStep.{ended_step}
use Rattle.protocol.specs.WorldStep.{home, ran}
use Rattle.packetless_machine.specs.declared.reply.Reply.{Reply}
use Rattle.packetless_machine.specs.declared.steps.MachineStep.TheVariants as steps
use Rattle.packetless_machine.specs.Machine as machine
use Rattle.packetless_machine.specs.Machine.{Machine, End, regions_of, put_at}
use Rattle.packetless_machine.specs.Steps.{untold, receive_for, unused_after, current, fills, has_imm, has_unused, has_current, may_run, may_run_kind, may_add, is_current_granted, is_request_granted, is_granted_there, right_for, peer_of, next_bytes, receiving, arrivals, received_whole, used_by, run}
use Rattle.law_simulation.specs.Packets.{class_of, IsRequest}
use Rattle.law_simulation.specs.Views.{Owned, requests_of, side_of, owned, owned_there, receive_in, link_or_none}
use Rattle.law_simulation.specs.Joined.{IsProgress, is_granted_in}
use Rattle.law_simulation.specs.Stands.{Stands, IsEndSound}
use Rattle.law_simulation.proofs.relation.Sounds.{end_regions, queue_there}
use Rattle.law_simulation.proofs.relation.Ends.{with_more, completing_there}
use Rattle.law_simulation.specs.Delivered.{Arrives, Takes}
use Rattle.law_simulation.proofs.delivery.Lifted.{IsAnswer, side_now}
use Rattle.law_simulation.proofs.requests.Requests.{IsRequestAt, asking, request_at_end}
use Rattle.law_simulation.proofs.requests.Scenes.{scene}
use Rattle.law_simulation.proofs.requests.Replies.{IsTowards, ack_answer}
use Rattle.law_simulation.proofs.requests.Opcodes.{IsMessage}
use Rattle.law_simulation.proofs.requests.Responding.{IsRespond, responds, takes_so, made_there}
use Rattle.law_simulation.proofs.requests.Advancing.{got, moved_on}
use Rattle.law_simulation.proofs.requests.Expected.{at, connected_now, run_steps, step_now, carries_now}
use Rattle.law_simulation.proofs.requests.Messages as messages
use Rattle.law_simulation.proofs.requests.Counting.{same_here, owned_here, owned_got, o_sound, q_sound, o_in, q_in, q_there, name_there, apart}
use Rattle.law_simulation.proofs.delivery.Regions.{put_like, put_whole, put_said, like_local}
use Rattle.law_simulation.proofs.requests.Written.{IsPlaceOf, written_put}
use Rattle.law_simulation.proofs.requests.Running as running
use Rattle.law_simulation.proofs.requests.Runs.{IsRunPeer, filled_peer, more_peer, within_limit, one_number}
use Rattle.law_simulation.proofs.requests.Due.{mtu_positive}
use Rattle.law_simulation.proofs.requests.Landing.{lands, there_with, with_parts}
use Rattle.law_simulation.proofs.requests.Acted.{end_moved_sound}
use Rattle.law_simulation.proofs.requests.Completes.{completed_is, completed_none, completed_names, receives_sound, fewer_places}
use Rattle.law_simulation.proofs.requests.Writes as writes
use Rattle.law_simulation.proofs.requests.Writes.{IsWriteAt, write_kind}

-- ---- the protocol's side, over plain parts

expected_write : (c : state.Context) (e : state.End) (l : Link) (d : Packet) (n : ℕ) (region : Region) → nat_le number_limit (n + 1) ≡ false → is_read_request d.opcode ≡ false → is_invalid l d ≡ false → target c e d ≡ Some region → is_send d.opcode ≡ false → is_write d.opcode ≡ true → is_not_ready e d ≡ false →
    expected_packet c e l d n ≡ write_acts c e (executed l d) d n (place_of region d.reth l.receiver.progress)
unfolding expected_packet packet_acts executed words.with_receiver
expected_write c e l d n region limit read valid found send write ready =
    ap (λ k. if nat_le number_limit (n + k) then no_repeat c else if is_invalid l d then refuses c e l n whys.Invalid else granted_packet c e l d n (target c e d)) (one_number d l.terms.mtu read)
    ∙ (ap (λ b. if b then no_repeat c else if is_invalid l d then refuses c e l n whys.Invalid else granted_packet c e l d n (target c e d)) limit
    ∙ (ap (λ b. if b then refuses c e l n whys.Invalid else granted_packet c e l d n (target c e d)) valid
    ∙ (ap (granted_packet c e l d n) found
    ∙ by_tests)))
  where
    by_tests : granted_packet c e l d n (Some region) ≡ write_acts c e (executed l d) d n (place_of region d.reth l.receiver.progress)
    by_tests =
        ap (λ b. if b then not_ready c l n else if is_too_long e l d then refuses_length c e l n else packet_acts c e (executed l d) d region n) ready
        ∙ (ap (λ b. if b && nat_lt (receive_of e l.receiver.progress).length (bytes_before None l.receiver.progress + length d.payload) then refuses_length c e l n else packet_acts c e (executed l d) d region n) send
        ∙ (ap (λ b. if b then send_acts c e (executed l d) d n (receive_of e (executed l d).receiver.progress) (bytes_before None (executed l d).receiver.progress) else if is_write d.opcode then write_acts c e (executed l d) d n (place_of region d.reth (executed l d).receiver.progress) else if is_read_request d.opcode then read_acts c e (executed l d) region n d.reth else atomic_acts c e (executed l d) d region n d.atomic) send
        ∙ ap (λ b. if b then write_acts c e (executed l d) d n (place_of region d.reth (executed l d).receiver.progress) else if is_read_request d.opcode then read_acts c e (executed l d) region n d.reth else atomic_acts c e (executed l d) d region n d.atomic) write))

-- a Write that needs no receive, or finds one, is ready
ready_write : (fills imm unused : Bool) → (not (fills && imm) || unused) ≡ true → (fills && imm) ≡ true → unused ≡ true
ready_write true true u h k = h
ready_write true false u h k = absurd (cc)
ready_write false i u h k = absurd (cc)

not_empty : (us : List Receive) → nat_lt 0 (length us) ≡ true → is_empty us ≡ false
not_empty [] h = absurd (cc)
not_empty (v ∷ us) h = refl

-- ---- the three ends of a piece

done_more : (c : state.Context) (e : state.End) (l : Link) (d : Packet) (p : Place) (done : ℕ) → finishes (part_of d.opcode) ≡ false → write_done c e l d p done ≡ words.linked c e (in_progress l (InWrite p.region p.off p.length done))
unfolding write_done
done_more c e l d p done h = ap (λ b. if b then with_immediate c e (in_progress l NoMessage) p.length d.imm else words.linked c e (in_progress l (InWrite p.region p.off p.length done))) h

done_last : (c : state.Context) (e : state.End) (l : Link) (d : Packet) (p : Place) (done : ℕ) (imm : Option ℕ) → finishes (part_of d.opcode) ≡ true → d.imm ≡ imm → write_done c e l d p done ≡ with_immediate c e (in_progress l NoMessage) p.length imm
unfolding write_done
done_last c e l d p done imm h i =
    ap (λ b. if b then with_immediate c e (in_progress l NoMessage) p.length d.imm else words.linked c e (in_progress l (InWrite p.region p.off p.length done))) h
    ∙ ap (with_immediate c e (in_progress l NoMessage) p.length) i

-- what the machine leaves of the receives
receiving_write : (r : Posted) (whole : Bool) (x : End) → kinds.is_send (kind_of r) ≡ false → receiving r.request.shape whole x ≡ record x { unused = if has_imm r && whole then drop 1 x.unused else x.unused }
unfolding receiving
receiving_write r whole x send =
    ap (λ b. if b then record x { in_use = if whole then None else receive_for x; unused = unused_after x } else if is_some r.request.shape.imm && whole then record x { unused = drop 1 x.unused } else x) send
    ∙ by_test (is_some r.request.shape.imm && whole)
  where
    by_test : (b : Bool) → (if b then record x { unused = drop 1 x.unused } else x) ≡ record x { unused = if b then drop 1 x.unused else x.unused }
    by_test true = refl
    by_test false = refl

-- the context with the memory, and then the end
linked_over : (c : state.Context) (rs : List Region) (n : Name) (e e' : state.End) (qs : List CompletionQueue) (l : Link) → e.name ≡ n → record e { link = Some l } ≡ e' → c.queues ≡ qs → words.linked (record c { regions = rs }) e l ≡ there_with c rs n e' qs
unfolding words.with_end words.with_link
linked_over c rs n e e' qs l named' same queues = λ i. record c { regions = rs; ends = store_named (λ z. z.name) (named' i) (same i) c.ends; queues = queues i }

all_true : (p u v : Bool) → (p && (u && v)) ≡ true → v ≡ true
all_true true true v h = h
all_true true false v h = absurd (cc)
all_true false u v h = absurd (cc)

two_true : (p u : Bool) → (p && u) ≡ true → (p ≡ true) × (u ≡ true)
two_true true true h = (refl, refl)
two_true true false h = absurd (cc)
two_true false u h = absurd (cc)

abbrev nothing : Option ℕ
nothing = None

none_in : receive_in NoMessage ≡ None
unfolding receive_in
none_in = refl

-- ---- the whole step

module _ (w : World) (m : Machine) (o : ObjName) (l : Link) (number : Option ℕ) (bytes : List ℕ) (d : Packet) (a : Arrives w m o l number bytes d) (is : class_of d ≡ IsRequest) (paused : is_paused l.moving.phase ≡ false) (now : (request_at_end w m o l number bytes d a is).0 ≡ l.receiver.expected)
    (write : kinds.is_write (kind_of (current (machine.end_of m (machine.end_of m o).peer))) ≡ true) (runs : may_run m (machine.end_of m o).peer (length d.payload) ≡ true) where
  open scene w m o l number bytes d a is use {n, q, g, r, x, y, regions, c, e}

  abbrev count : ℕ
  count = length d.payload

  abbrev req : IsRequestAt w m o l n d
  req = at w m o l number bytes d a is paused now

  not_read : kinds.is_read (kind_of r) ≡ false
  not_read = writes.not_read w m o l number bytes d a is paused now write

  not_atomic : kinds.is_atomic (kind_of r) ≡ false
  not_atomic = writes.not_atomic w m o l number bytes d a is paused now write

  not_send : kinds.is_send (kind_of r) ≡ false
  not_send = writes.not_send w m o l number bytes d a is paused now write

  op : IsMessage (kind_of r) (is_first_piece (g.into / g.mtu)) (is_last_piece r.request.shape g.mtu (g.into / g.mtu)) d.opcode
  op = writes.op w m o l number bytes d a is paused now write

  both : owned_there e ≡ owned x
  both = owned_here w m o l n d a.stands a.live a.linked req

  -- what the machine asks of a Run
  may : (is_current_granted m q && (not (fills g count && has_imm r) || has_unused (peer_of m q))) ≡ true
  unfolding may_run may_run_kind
  may = ap (may_run_kind m q count) (sym (write_kind (kind_of r) write)) ∙ all_true (has_current m q) (may_add g count) (may_run_kind m q count (kind_of r)) runs

  granted_now : is_granted_in x.domain regions r ≡ true
  unfolding is_request_granted is_granted_there is_granted_in
  granted_now = ap (λ j. is_granted remote_key (regions_of m j.context) (machine.end_of m j).domain r.request.shape.rkey r.request.shape.remote (size_of r) (right_for (kind_of r))) (sym req.joined.back) ∙ (two_true _ _ may).0

  has_room : (not (fills g count && has_imm r) || nat_lt 0 (length x.unused)) ≡ true
  has_room = ap (λ j. not (fills g count && has_imm r) || nat_lt 0 (length (machine.end_of m j).unused)) (sym req.joined.back) ∙ (two_true _ _ may).1

  domain_same : e.domain ≡ x.domain
  unfolding owned_there owned
  domain_same = ap (λ z. z.domain) both

  unused_same : e.unused ≡ x.unused
  unfolding owned_there owned
  unused_same = ap (λ z. z.unused) both

  number_same : e.number ≡ x.number
  unfolding owned_there owned
  number_same = ap (λ z. z.number) both

  queue_same : e.recv_cq ≡ x.receive_queue
  unfolding owned_there owned
  queue_same = ap (λ z. z.receive_queue) both

  there : IsWriteAt c e l d regions r g.into
  there = writes.write_at w m o l number bytes d a is paused now write granted_now domain_same

  abbrev p : Place
  p = place_of there.region d.reth l.receiver.progress

  imm_is : is_some d.imm ≡ (fills g count && has_imm r)
  imm_is =
      ap is_some (messages.imm_now w m o l number bytes d a is paused now not_read not_atomic)
      ∙ (by_last (is_last_piece r.request.shape g.mtu (g.into / g.mtu)) ∙ ap (λ b. b && has_imm r) (messages.last_now w m o l number bytes d a is paused now not_read not_atomic))
    where
      by_last : (b : Bool) → is_some (if b then r.request.shape.imm else None) ≡ (b && is_some r.request.shape.imm)
      by_last true = refl
      by_last false = refl

  ready : is_not_ready e d ≡ false
  ready =
      ap (λ b. ((b && begins (part_of d.opcode)) || (is_write d.opcode && is_some d.imm)) && is_empty e.unused) (op.send ∙ not_send)
      ∙ (ap (λ b. (false || (b && is_some d.imm)) && is_empty e.unused) (op.write ∙ write)
      ∙ (ap (λ b. b && is_empty e.unused) imm_is ∙ by_need (fills g count && has_imm r) refl))
    where
      by_need : (b : Bool) → (fills g count && has_imm r) ≡ b → (b && is_empty e.unused) ≡ false
      by_need false t = refl
      by_need true t = ap is_empty unused_same ∙ not_empty x.unused (ready_write (fills g count) (has_imm r) (nat_lt 0 (length x.unused)) has_room t)

  step : takes c e l d ≡ write_acts c e (executed l d) d n p
  step = step_now w m o l number bytes d a is paused now ∙ expected_write c e l d n there.region (within_limit w m o l number bytes d a is paused now) op.read there.valid there.found (op.send ∙ not_send) (op.write ∙ write) ready

  -- the memory
  abbrev rs : List Region
  rs = put_at remote_key r.request.shape.rkey (r.request.shape.remote + g.into) (next_bytes g count) regions

  paired : All (λ z. z.keys.remote ≡ suc z.keys.local) regions
  paired = All-weaker (λ z. Contains m.keys z.keys.local × (z.keys.local % 2 ≡ 0) × (z.keys.remote ≡ suc z.keys.local)) (λ z. z.keys.remote ≡ suc z.keys.local) (λ z h. h.2) regions (a.stands.sound o.context).keyed

  memory : written c p.region (p.off + p.done) d.payload ≡ record c { regions = rs }
  memory =
      written_put c regions x.domain r g.into p d.payload (writes.regions_is w m o l number bytes d a is paused now write) paired (a.stands.sound o.context).keyed_once granted_now there.place (writes.within_size w m o l number bytes d a is paused now write)
      ∙ ap (λ bs. record c { regions = put_at remote_key r.request.shape.rkey (r.request.shape.remote + g.into) bs regions }) (messages.next_now w m o l number bytes d a is paused now not_read not_atomic)

  said : All (λ b. b < 256) (next_bytes g count)
  unfolding cut
  said = All-take (λ b. b < 256) count (drop g.into r.payload) (All-drop (λ b. b < 256) g.into r.payload (messages.sayable_now w m o l number bytes d a is paused now not_read not_atomic).bytes)

  -- the receives, and the queues
  abbrev us : List Receive
  us = if has_imm r && fills g count then drop 1 x.unused else x.unused

  abbrev f' : End
  f' = receiving r.request.shape (fills g count) x

  abbrev qs : List CompletionQueue
  qs = machine.completed x.receive_queue (arrivals g count x) y.queues

  f_is : f' ≡ record x { unused = us }
  f_is = receiving_write r (fills g count) x not_send

  queue_in_context : has_name (λ z. z.name) x.receive_queue y.queues ≡ true
  queue_in_context = queue_there x.receive_queue y.queues (o_sound w m o l n d a.stands a.live a.linked req).receive_queue

  connected_here : x.connected ≡ true
  unfolding owned_there owned
  connected_here = ap (λ z. z.connected) (sym both) ∙ ap is_some a.linked

  f_sound : IsEndSound rs (map (λ z. z.name) qs) f'
  f_sound =
      let s = o_sound w m o l n d a.stands a.live a.linked req in
      subst (IsEndSound rs (map (λ z. z.name) qs)) (sym f_is)
      (subst (λ ns. IsEndSound rs ns (record x { unused = us })) (sym (completed_names x.receive_queue (arrivals g count x) y.queues queue_in_context))
      (end_regions regions rs (map (λ z. z.name) y.queues) (λ domain key place k right h. like_local regions rs domain key place k right (put_like remote_key r.request.shape.rkey (r.request.shape.remote + g.into) (next_bytes g count) regions) ∙ h) (record x { unused = us })
      (by_used (has_imm r && fills g count) s)))
    where
      by_used : (b : Bool) → IsEndSound regions (map (λ z. z.name) y.queues) x → IsEndSound regions (map (λ z. z.name) y.queues) (record x { unused = if b then drop 1 x.unused else x.unused })
      by_used true s = receives_sound regions (map (λ z. z.name) y.queues) x x.in_use (drop 1 x.unused) connected_here (fewer x.unused) (fewer_places regions x s.receives) s
        where
          fewer : (vs : List Receive) → length (drop 1 vs) ≤ length vs
          fewer [] = omega arith
          fewer (v ∷ vs) = omega arith
      by_used false s = s

  -- ---- what the responder comes to

  abbrev after_piece : Progress → Receiver
  after_piece z = record l.receiver {
    expected = l.receiver.expected + span_of_packet d l.terms.mtu d.reth;
    nak_sent = false;
    msn = (l.receiver.msn + finished d) % 16777216;
    progress = z;
  }

  link_is : (z : Progress) → in_progress (executed l d) z ≡ got l (after_piece z)
  unfolding executed words.with_receiver
  link_is z = refl

  expected_after : (z : Progress) → (after_piece z).expected ≡ l.receiver.expected + 1
  expected_after z = ap (λ k. l.receiver.expected + k) (one_number d l.terms.mtu op.read)

  abbrev e_after : Progress → state.End
  e_after z = record e { unused = us; link = Some (got l (after_piece z)) }

  no_receive_in_use : receive_in l.receiver.progress ≡ None
  unfolding receive_in
  no_receive_in_use = by_progress l.receiver.progress (writes.progress_is w m o l number bytes d a is paused now write)
    where
      by_progress : (z : Progress) → IsProgress (asking m o) x.domain regions z → receive_in z ≡ None
      by_progress NoMessage h = refl
      by_progress (InSend done receive) h = absurd (cc (h.2, not_send))
      by_progress (InWrite region off k done) h = refl

  none_used : x.in_use ≡ None
  unfolding owned_there owned link_or_none
  none_used = ap (λ z. z.in_use) (sym both) ∙ (ap (λ z. receive_in (link_or_none z).receiver.progress) a.linked ∙ no_receive_in_use)

  owned_after : (z : Progress) → receive_in z ≡ None → owned_there (e_after z) ≡ owned f'
  unfolding owned_there owned untold
  owned_after z h =
      ap (λ (k : Owned). record k { unused = us }) (owned_got e l (after_piece z) a.linked ∙ ap (λ v. record (owned_there e) { in_use = v }) h)
      ∙ (ap (λ (k : Owned). record k { in_use = None; unused = us }) both
      ∙ (ap (λ v. record (owned x) { in_use = v; unused = us }) (sym none_used) ∙ ap owned (sym f_is)))

  requests_same : requests_of f' ≡ requests_of x
  requests_same = ap requests_of f_is

  -- the ACK, or nothing
  towards_after : IsTowards (executed l d) (side_of w q) (asking m o)
  unfolding executed words.with_receiver
  towards_after = record { connected = req.towards.connected; number = req.towards.number; said = req.towards.said; start = req.towards.start }

  one : {A : Type 0} (P : A → Type 0) (z : A) → P z → All P (z ∷ [])
  one P z h = All-cons P z [] h (All-nil P)

  found_q : has_name (λ z. z.name) q.name (machine.context_of m q.context).ends ≡ true
  found_q = q_in w m o l n d a.stands a.live a.linked req

  found_o : has_name (λ z. z.name) o.name y.ends ≡ true
  found_o = o_in w m o l n d a.stands a.live a.linked req

  module _ (acted into : ℕ) (answers : List Reply) (peer : IsRunPeer w m o l number bytes d a is paused now acted into answers) (z : Progress) (idle : receive_in z ≡ None) (progress : IsProgress (moved_on (asking m o) acted into answers g.offers g.dry) x.domain regions z)
      (context : write_done (written c p.region (p.off + p.done) d.payload) e (executed l d) d p (p.done + count) ≡ there_with c rs o.name (e_after z) qs) where
    abbrev g' : End
    g' = moved_on g acted into answers g.offers g.dry

    respond : IsRespond w m (run m q count) o l (after_piece z) (there_with c rs o.name (e_after z) qs) (with_parts y rs o.name f' qs) f' acted into answers g.offers g.dry
    respond =
        lands w m o l n d a.stands a.live a.linked req (machine.with_end m q g') (run m q count) (after_piece z) acted into answers g.offers g.dry rs qs (e_after z) f'
        (running.first_change m o count found_o g' req.joined.back (apart w m o l n d a.stands a.live a.linked req) found_q (made_there m q (q_there w m o l n d a.stands a.live a.linked req)))
        (running.run_write m o count found_o g' req.joined.back (apart w m o l n d a.stands a.live a.linked req) found_q (made_there m q (q_there w m o l n d a.stands a.live a.linked req)) peer.moved not_send)
        (running.run_numbers m o count found_o g' req.joined.back (apart w m o l n d a.stands a.live a.linked req) found_q (made_there m q (q_there w m o l n d a.stands a.live a.linked req)))
        (running.run_keys m o count found_o g' req.joined.back (apart w m o l n d a.stands a.live a.linked req) found_q (made_there m q (q_there w m o l n d a.stands a.live a.linked req)))
        (put_like remote_key r.request.shape.rkey (r.request.shape.remote + g.into) (next_bytes g count) regions)
        (put_whole remote_key r.request.shape.rkey (r.request.shape.remote + g.into) (next_bytes g count) regions (a.stands.sound o.context).whole)
        (put_said remote_key r.request.shape.rkey (r.request.shape.remote + g.into) (next_bytes g count) regions said (a.stands.sound o.context).bytes)
        (completed_names x.receive_queue (arrivals g count x) y.queues queue_in_context)
        (name_there w m o l n d a.stands a.live a.linked req) refl (owned_after z idle) requests_same f_sound
        (end_moved_sound _ _ g acted into answers g.offers g.dry (connected_now w m o l number bytes d a is paused now) peer.sound (q_sound w m o l n d a.stands a.live a.linked req))
        (peer.advance (after_piece z) (expected_after z) refl) progress

    acked : IsAnswer (side_of w q) (side_now (side_of w o) (got l (after_piece z))) (requests_of g') (requests_of f') (acknowledge (executed l d) n Ack)
    acked = ack_answer (executed l d) (side_of w q) (side_now (side_of w o) (got l (after_piece z))) (requests_of g') (requests_of f') n (record { connected = towards_after.connected; number = towards_after.number; said = towards_after.said; start = towards_after.start }) peer.acted_now

    stands_so : (b : Bool) → Stands (ran w (ended_step (home w o.context) (if b then record { context = there_with c rs o.name (e_after z) qs; took = took.Ack; sent = acknowledge (executed l d) n Ack ∷ [] } else words.stays (there_with c rs o.name (e_after z) qs) took.Acted))).world (run m q count)
    stands_so true = responds w m (run m q count) o l n d (after_piece z) (there_with c rs o.name (e_after z) qs) (with_parts y rs o.name f' qs) f' acted into answers g.offers g.dry a.stands a.live a.alive req respond took.Ack (acknowledge (executed l d) n Ack ∷ []) (one (IsAnswer (side_of w q) (side_now (side_of w o) (got l (after_piece z))) (requests_of g') (requests_of f')) (acknowledge (executed l d) n Ack) acked)
    stands_so false = responds w m (run m q count) o l n d (after_piece z) (there_with c rs o.name (e_after z) qs) (with_parts y rs o.name f' qs) f' acted into answers g.offers g.dry a.stands a.live a.alive req respond took.Acted [] (All-nil _)

    stands_acts : Stands (ran w (ended_step (home w o.context) (write_acts c e (executed l d) d n p))).world (run m q count)
    stands_acts = subst (λ k. Stands (ran w (ended_step (home w o.context) (acts k (executed l d) d n))).world (run m q count)) (sym context) (stands_so (finishes (part_of d.opcode) || d.ack_request))

    finish : Takes w m o l number d
    finish =
        takes_so w m o l number d n (steps.Run q count ∷ []) (write_acts c e (executed l d) d n p) (request_at_end w m o l number bytes d a is).1 req.link is tt (runs, tt)
        (sym (carries_now w m o l number bytes d a is paused now ∙ run_steps m q count runs)) step stands_acts

  -- ---- the three cases

  -- the queues, where nothing completes
  no_completion : arrivals g count x ≡ [] → c.queues ≡ qs
  no_completion h = (same_here w m o l n d a.stands a.live a.linked req).queues ∙ sym (ap (λ k. machine.completed x.receive_queue k y.queues) h ∙ completed_none x.receive_queue y.queues queue_in_context)

  -- the end, where no receive is used
  e_kept : (z : Progress) → us ≡ x.unused → record e { link = Some (got l (after_piece z)) } ≡ e_after z
  e_kept z h = λ i. record e { unused = (unused_same ∙ sym h) i; link = Some (got l (after_piece z)) }

  name_is : e.name ≡ o.name
  name_is = name_there w m o l n d a.stands a.live a.linked req

  -- not the last piece
  more : fills g count ≡ false → Takes w m o l number d
  unfolding receive_in arrivals
  more h =
      let z : Progress = InWrite p.region p.off p.length (p.done + count) in
      let size = writes.more_size w m o l number bytes d a is paused now write h in
      let some : 1 ≤ count = omega (arith, size.0, mtu_positive g.mtu (messages.mtu_is_one w m o l number bytes d a is paused now not_read not_atomic)) in
      let place : IsPlaceOf regions r g.into p = there.place some in
      let kept : us ≡ x.unused = ap (λ b. if has_imm r && b then drop 1 x.unused else x.unused) h ∙ no_use (has_imm r) in
      finish g.acted (g.into + count) g.answers (more_peer w m o l number bytes d a is paused now not_read not_atomic h) z refl
      (omega (arith, some), ap (λ k. k + count) place.done, write, place.length, granted_now, record { region = place.writing.region; there = place.writing.there; local = place.writing.local; remote = place.writing.remote; place = place.writing.place })
      (ap (λ k. write_done k e (executed l d) d p (p.done + count)) memory
      ∙ (done_more (record c { regions = rs }) e (executed l d) d p (p.done + count) (messages.finishes_now w m o l number bytes d a is paused now not_read not_atomic ∙ h)
      ∙ (ap (words.linked (record c { regions = rs }) e) (link_is z)
      ∙ linked_over c rs o.name e (e_after z) qs (got l (after_piece z)) name_is (e_kept z kept) (no_completion (ap (λ b. if b then received_whole x.number r (used_by r x) else []) h)))))
    where
      no_use : (b : Bool) → (if b && false then drop 1 x.unused else x.unused) ≡ x.unused
      no_use true = refl
      no_use false = refl

  -- the last piece, without an immediate
  last_plain : fills g count ≡ true → r.request.shape.imm ≡ None → Takes w m o l number d
  unfolding receive_in arrivals used_by received_whole
  last_plain h none =
      let kept : us ≡ x.unused = ap (λ v. if is_some v && fills g count then drop 1 x.unused else x.unused) none in
      let no_imm : d.imm ≡ None = messages.imm_now w m o l number bytes d a is paused now not_read not_atomic ∙ (ap (λ v. if is_last_piece r.request.shape g.mtu (g.into / g.mtu) then v else None) none ∙ no_choice (is_last_piece r.request.shape g.mtu (g.into / g.mtu))) in
      let unused : used_by r x ≡ None = ap (λ b. if b then receive_for x else if has_imm r then slice_get x.unused 0 else None) not_send ∙ ap (λ v. if is_some v then slice_get x.unused 0 else None) none in
      finish (suc g.acted) 0 _ (filled_peer w m o l number bytes d a is paused now not_read not_atomic h) NoMessage refl refl
      (ap (λ k. write_done k e (executed l d) d p (p.done + count)) memory
      ∙ (done_last (record c { regions = rs }) e (executed l d) d p (p.done + count) None (messages.finishes_now w m o l number bytes d a is paused now not_read not_atomic ∙ h) no_imm
      ∙ (ap (words.linked (record c { regions = rs }) e) (link_is NoMessage)
      ∙ linked_over c rs o.name e (e_after NoMessage) qs (got l (after_piece NoMessage)) name_is (e_kept NoMessage kept) (no_completion (ap (λ b. if b then received_whole x.number r (used_by r x) else []) h ∙ ap (received_whole x.number r) unused)))))
    where
      no_choice : (b : Bool) → (if b then nothing else nothing) ≡ nothing
      no_choice true = refl
      no_choice false = refl

  -- the last piece, with an immediate: it completes the oldest unused receive
  module _ (h : fills g count ≡ true) (imm : ℕ) (some : r.request.shape.imm ≡ Some imm) where
    used : us ≡ drop 1 x.unused
    used = (λ i. if is_some (some i) && h i then drop 1 x.unused else x.unused)

    imm_now : d.imm ≡ Some imm
    imm_now = messages.imm_now w m o l number bytes d a is paused now not_read not_atomic ∙ (ap (λ b. if b then r.request.shape.imm else None) (messages.last_now w m o l number bytes d a is paused now not_read not_atomic ∙ h) ∙ some)

    room : nat_lt 0 (length x.unused) ≡ true
    room = ready_write (fills g count) (has_imm r) (nat_lt 0 (length x.unused)) has_room (λ i. h i && is_some (some i))

    first_unused : (vs : List Receive) → nat_lt 0 (length vs) ≡ true → slice_get vs 0 ≡ Some (front vs)
    first_unused [] k = absurd (cc)
    first_unused (v ∷ vs) k = refl

    abbrev done : Completion
    done = receive_done x.number (front x.unused) wc.RecvImm status.Success (size_of r) (Some imm)

    arrived : arrivals g count x ≡ done ∷ []
    unfolding arrivals used_by received_whole
    arrived =
        ap (λ b. if b then received_whole x.number r (used_by r x) else []) h
        ∙ (ap (received_whole x.number r) (ap (λ b. if b then receive_for x else if has_imm r then slice_get x.unused 0 else None) not_send ∙ (ap (λ v. if is_some v then slice_get x.unused 0 else None) some ∙ first_unused x.unused room))
        ∙ ((λ i. receive_done x.number (front x.unused) (if not_send i then wc.Recv else wc.RecvImm) status.Success (size_of r) (some i) ∷ [])))

    queues_are : qs ≡ with_more y.queues x.receive_queue (done ∷ [])
    queues_are = ap (λ k. machine.completed x.receive_queue k y.queues) arrived ∙ completed_is x.receive_queue (done ∷ []) y.queues queue_in_context

    e_used : words.with_link (words.with_unused e (drop 1 e.unused)) (got l (after_piece NoMessage)) ≡ e_after NoMessage
    unfolding words.with_link words.with_unused
    e_used = λ i. record e { unused = (ap (drop 1) unused_same ∙ sym used) i; link = Some (got l (after_piece NoMessage)) }

    abbrev over_memory : state.Context
    over_memory = record c { regions = rs }

    completes : with_immediate over_memory e (in_progress (executed l d) NoMessage) p.length (Some imm) ≡ there_with c rs o.name (e_after NoMessage) qs
    unfolding words.with_end words.with_link words.with_unused
    completes =
        let linked' : words.linked over_memory (words.with_unused e (drop 1 e.unused)) (in_progress (executed l d) NoMessage) ≡ there_with c rs o.name (e_after NoMessage) c.queues =
        ap (words.linked over_memory (words.with_unused e (drop 1 e.unused))) (link_is NoMessage) ∙ linked_used in
        let entry : words.done_receive e.number wc.RecvImm p.length (Some imm) (front e.unused) ≡ done =
        λ i. receive_done (number_same i) (front (unused_same i)) wc.RecvImm status.Success (there.size i) (Some imm) in
        (λ i. words.completing (linked' i) (queue_same i) (entry i ∷ []))
        ∙ (completing_there (there_with c rs o.name (e_after NoMessage) c.queues) y.queues x.receive_queue (done ∷ []) (same_here w m o l n d a.stands a.live a.linked req).queues queue_in_context
        ∙ ap (λ k. there_with c rs o.name (e_after NoMessage) k) (sym queues_are))
      where
        linked_used : words.linked over_memory (words.with_unused e (drop 1 e.unused)) (got l (after_piece NoMessage)) ≡ there_with c rs o.name (e_after NoMessage) c.queues
        linked_used = λ i. record c { regions = rs; ends = store_named (λ z. z.name) (name_is i) (e_used i) c.ends; queues = c.queues }

    last_imm : Takes w m o l number d
    last_imm =
        finish (suc g.acted) 0 _ (filled_peer w m o l number bytes d a is paused now not_read not_atomic h) NoMessage none_in refl
        (ap (λ k. write_done k e (executed l d) d p (p.done + count)) memory
        ∙ (done_last over_memory e (executed l d) d p (p.done + count) (Some imm) (messages.finishes_now w m o l number bytes d a is paused now not_read not_atomic ∙ h) imm_now
        ∙ completes))

  by_imm : fills g count ≡ true → (v : Option ℕ) → r.request.shape.imm ≡ v → Takes w m o l number d
  by_imm h None t = last_plain h t
  by_imm h (Some imm) t = last_imm h imm t

  by_fill : (b : Bool) → fills g count ≡ b → Takes w m o l number d
  by_fill true h = by_imm h r.request.shape.imm refl
  by_fill false h = more h

  pub write_taken : Takes w m o l number d
  write_taken = by_fill (fills g count) refl
