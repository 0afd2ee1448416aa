-- The expected piece of a Send, where the machine may run it: the whole step.
use Rattle.std.proofs.Common.{arith, ◌≡◌, ◌<◌, ◌≤◌, ◌+◌, ◌/◌, ◌%◌, ◌⊎◌, ℕ, suc, List, [], ◌∷◌, ◌++◌, map, length, true, false, Bool, refl, sym, ap, ◌∙◌, subst, inl, inr}
use Rattle.std.proofs.lemmas.Bool.Decides.{nat_tests, leb_tells, eqb_tells}
use Rattle.std.specs.Prelude.{Option, Some, None, if◌then◌else◌, is_some, nat_lt, ◌&&◌, ◌||◌, ◌==◌, All, drop, slice_get, option_to_list}
use Rattle.std.proofs.lemmas.List.Elements.{All-nil, All-cons, All-take, All-drop, All-head, All-tail}
use Rattle.rdma_types.specs.declared.names.Name.{Name}
use Rattle.rdma_types.specs.declared.names.ObjName.{ObjName}
use Rattle.rdma_types.specs.declared.answers.ArrivalEffect.TheVariants as took
use Rattle.rdma_types.specs.declared.requests.Receive.{Receive}
use Rattle.rdma_types.specs.declared.requests.WcKind.TheVariants as wc
use Rattle.rdma_types.specs.declared.requests.WcStatus.TheVariants as status
use Rattle.rdma_types.specs.Kinds as kinds
use Rattle.rdma_types.specs.Kinds.{kind_of, size_of, receive_done}
use Rattle.rdma_types.specs.Lists.{has_name, store_named}
use Rattle.rdma_types.specs.Memory.{cut, local_key}
use Rattle.rdma_types.specs.Objects.{CompletionQueue, Posted, Region}
use Rattle.protocol.specs.declared.wire.Syndrome.TheVariants.{Ack}
use Rattle.protocol.specs.declared.wire.Reth.{Reth}
use Rattle.protocol.specs.State as state
use Rattle.protocol.specs.State.{World, Link, Receiver, Progress, NoMessage, InSend, InWrite}
use Rattle.protocol.specs.Memory.{landed}
use Rattle.protocol.specs.Segments.{is_first_piece, is_last_piece}
use Rattle.protocol.specs.Wire.{Packet, when}
use Rattle.protocol.specs.EndWords as words
use Rattle.protocol.specs.EndWords.{is_paused, in_use_by}
use Rattle.protocol.specs.Responder as responder
use Rattle.protocol.specs.Responder.{send_done, finished, begins, receive_of, bytes_before, send_acts, acts, executed, in_progress, is_invalid, is_not_ready, is_send, is_write, span_of_packet, part_of, finishes, acknowledge, is_empty, front}
use Rattle.protocol.specs.EndStep.{takes}
use Rattle.protocol.specs.DeviceStep.{ended_step}
use Rattle.protocol.specs.WorldStep.{home, ran}
use Rattle.packetless_machine.specs.declared.reply.Reply.{Reply}
use Rattle.packetless_machine.specs.declared.steps.MachineStep.TheVariants as steps
use Rattle.packetless_machine.specs.Machine as machine
use Rattle.packetless_machine.specs.Machine.{Machine, End, put_at}
use Rattle.packetless_machine.specs.Steps.{fits, first_receive, untold, receive_for, unused_after, current, fills, has_imm, has_current, may_run, may_run_kind, may_add, next_bytes, receiving, arrivals, received_whole, used_by, run}
use Rattle.law_simulation.specs.Packets.{class_of, IsRequest}
use Rattle.law_simulation.specs.Views.{Owned, requests_of, side_of, owned, owned_there, receive_in, link_or_none}
use Rattle.law_simulation.specs.Joined.{IsProgress}
use Rattle.law_simulation.specs.Stands.{Stands, IsEndSound}
use Rattle.law_simulation.proofs.relation.Sounds.{end_regions, queue_there}
use Rattle.law_simulation.proofs.relation.Ends.{with_more, completing_there}
use Rattle.law_simulation.specs.Delivered.{Arrives, Takes}
use Rattle.law_simulation.proofs.delivery.Lifted.{IsAnswer, side_now}
use Rattle.law_simulation.proofs.requests.Requests.{IsRequestAt, asking, request_at_end}
use Rattle.law_simulation.proofs.requests.Scenes.{scene}
use Rattle.law_simulation.proofs.requests.Replies.{IsTowards, ack_answer}
use Rattle.law_simulation.proofs.requests.Opcodes.{IsMessage}
use Rattle.law_simulation.proofs.requests.Responding.{IsRespond, responds, takes_so, made_there}
use Rattle.law_simulation.proofs.requests.Advancing.{got, moved_on}
use Rattle.law_simulation.proofs.requests.Expected.{at, connected_now, run_steps, step_now, carries_now}
use Rattle.law_simulation.proofs.requests.Messages as messages
use Rattle.law_simulation.proofs.requests.Counting.{progress_now, same_here, owned_here, owned_got, o_sound, q_sound, o_in, q_in, q_there, name_there, apart}
use Rattle.law_simulation.proofs.delivery.Regions.{put_like, put_whole, put_said, like_local}
use Rattle.law_simulation.proofs.requests.Running as running
use Rattle.law_simulation.proofs.requests.Runs.{IsRunPeer, filled_peer, more_peer, within_limit, one_number}
use Rattle.law_simulation.proofs.requests.Due.{mtu_positive}
use Rattle.law_simulation.proofs.requests.Landing.{lands, there_with, with_parts}
use Rattle.law_simulation.proofs.requests.Acted.{end_moved_sound}
use Rattle.law_simulation.proofs.requests.Completes.{completed_is, completed_none, completed_names, receives_sound, IsLocalPlace}
use Rattle.rdma_types.specs.Limits.{is_mtu}
use Rattle.rdma_types.specs.Objects.{no_region}
use Rattle.law_simulation.proofs.requests.Early.{not_less}
use Rattle.law_simulation.proofs.requests.Due.{piece_bytes, not_last, mtu_is}
use Rattle.law_simulation.proofs.requests.Opcodes.{part}
use Rattle.law_simulation.proofs.requests.Sends.{send_kind, send_not, send_first_valid, send_later_valid, target_none, expected_send, landed_put, first_is}

linked_over : (c : state.Context) (rs : List Region) (n : Name) (e e' : state.End) (qs : List CompletionQueue) (l : Link) → e.name ≡ n → record e { link = Some l } ≡ e' → c.queues ≡ qs → words.linked (record c { regions = rs }) e l ≡ there_with c rs n e' qs
unfolding words.with_end words.with_link
linked_over c rs n e e' qs l named' same queues = λ i. record c { regions = rs; ends = store_named (λ z. z.name) (named' i) (same i) c.ends; queues = queues i }

all_true : (p u v : Bool) → (p && (u && v)) ≡ true → v ≡ true
all_true true true v h = h
all_true true false v h = absurd (cc)
all_true false u v h = absurd (cc)

-- a receive that so many bytes fit
fitting : (o : Option Receive) (k : ℕ) → fits o k ≡ true → (v : Receive) × (o ≡ Some v) × (k ≤ v.length)
unfolding fits
fitting None k h = absurd (cc)
fitting (Some v) k h = (v, refl, grind (arith, nat_tests, leb_tells k v.length, h))

none_in : receive_in NoMessage ≡ None
unfolding receive_in
none_in = refl

in_use_is : (p : Progress) → in_use_by p ≡ option_to_list (receive_in p)
unfolding receive_in
in_use_is NoMessage = refl
in_use_is (InSend done v) = refl
in_use_is (InWrite region off k done) = refl

drop_used : (used : Option Receive) (unused : List Receive) → drop 1 (option_to_list used ++ unused) ≡ (if is_some used then unused else drop 1 unused)
drop_used None us = refl
drop_used (Some v) us = refl

receiving_send : (r : Posted) (whole : Bool) (x : End) → kinds.is_send (kind_of r) ≡ true → receiving r.request.shape whole x ≡ record x { in_use = if whole then None else receive_for x; unused = unused_after x }
unfolding receiving
receiving_send r whole x send = ap (λ b. if b then record x { in_use = if whole then None else receive_for x; unused = unused_after x } else if is_some r.request.shape.imm && whole then record x { unused = drop 1 x.unused } else x) send

send_more : (c : state.Context) (e : state.End) (l : Link) (d : Packet) (v : Receive) (done : ℕ) → finishes (part_of d.opcode) ≡ false → send_done c e l d v done ≡ words.linked c (words.with_unused e (responder.unused_after e l.receiver.progress)) (in_progress l (InSend done v))
unfolding send_done
send_more c e l d v done h = ap (λ b. if b then words.completing (words.linked c (words.with_unused e (responder.unused_after e l.receiver.progress)) (in_progress l NoMessage)) e.recv_cq (words.done_receive e.number wc.Recv done d.imm v ∷ []) else words.linked c (words.with_unused e (responder.unused_after e l.receiver.progress)) (in_progress l (InSend done v))) h

send_last : (c : state.Context) (e : state.End) (l : Link) (d : Packet) (v : Receive) (done : ℕ) → finishes (part_of d.opcode) ≡ true → send_done c e l d v done ≡ words.completing (words.linked c (words.with_unused e (responder.unused_after e l.receiver.progress)) (in_progress l NoMessage)) e.recv_cq (words.done_receive e.number wc.Recv done d.imm v ∷ [])
unfolding send_done
send_last c e l d v done h = ap (λ b. if b then words.completing (words.linked c (words.with_unused e (responder.unused_after e l.receiver.progress)) (in_progress l NoMessage)) e.recv_cq (words.done_receive e.number wc.Recv done d.imm v ∷ []) else words.linked c (words.with_unused e (responder.unused_after e l.receiver.progress)) (in_progress l (InSend done v))) h

-- the receive's place is among those of the end
first_place : (regions : List Region) (domain : Name) (used : Option Receive) (unused : List Receive) (v : Receive) → first_receive used unused ≡ Some v → All (IsLocalPlace regions domain) (option_to_list used ++ unused) → IsLocalPlace regions domain v
unfolding first_receive
first_place regions domain None [] v h all = absurd (cc)
first_place regions domain None (u ∷ us) v h all = let is : u ≡ v = cc in subst (IsLocalPlace regions domain) is (All-head (IsLocalPlace regions domain) u us all)
first_place regions domain (Some u) us v h all = let is : u ≡ v = cc in subst (IsLocalPlace regions domain) is (All-head (IsLocalPlace regions domain) u us all)

rest_places : (P : Receive → Type 0) (used : Option Receive) (unused : List Receive) → All P (option_to_list used ++ unused) → All P (if is_some used then unused else drop 1 unused)
rest_places P None us all = All-drop P 1 us all
rest_places P (Some u) us all = All-tail P u us all

rest_fewer : (used : Option Receive) (unused : List Receive) → length (if is_some used then unused else drop 1 unused) ≤ length unused
rest_fewer None [] = omega arith
rest_fewer None (v ∷ us) = omega arith
rest_fewer (Some u) us = omega arith

begins_part : (f t : Bool) → begins (part f t) ≡ f
begins_part true true = refl
begins_part true false = refl
begins_part false true = refl
begins_part false false = refl

none_begins : (p u v : Bool) → (((p && false) || (false && u)) && v) ≡ false
none_begins true u v = refl
none_begins false u v = refl

and_none : (p : Bool) → (p && false) ≡ false
and_none true = refl
and_none false = refl

zero_is : (k : ℕ) → k ≡ 0 → (k == 0) ≡ true
zero_is k s = grind (arith, nat_tests, eqb_tells k 0, s)

eq_of : (a b : ℕ) → (a == b) ≡ true → a ≡ b
eq_of a b t = grind (arith, nat_tests, eqb_tells a b, t)

has_first : (us : List Receive) (v : Receive) → first_receive None us ≡ Some v → is_empty us ≡ false
unfolding first_receive
has_first [] v h = absurd (cc)
has_first (u ∷ us) v h = refl

some_pieces : (into mtu : ℕ) → is_mtu mtu ≡ true → into % mtu ≡ 0 → 0 < into → 1 ≤ into / mtu
some_pieces into mtu is' = mtu_is (λ k. into % k ≡ 0 → 0 < into → 1 ≤ into / k) (λ x z. omega (arith, x, z)) (λ x z. omega (arith, x, z)) (λ x z. omega (arith, x, z)) (λ x z. omega (arith, x, z)) (λ x z. omega (arith, x, z)) mtu is'

-- ---- the whole step

module _ (w : World) (m : Machine) (o : ObjName) (l : Link) (number : Option ℕ) (bytes : List ℕ) (d : Packet) (a : Arrives w m o l number bytes d) (is : class_of d ≡ IsRequest) (paused : is_paused l.moving.phase ≡ false) (now : (request_at_end w m o l number bytes d a is).0 ≡ l.receiver.expected)
    (send : kinds.is_send (kind_of (current (machine.end_of m (machine.end_of m o).peer))) ≡ true) (runs : may_run m (machine.end_of m o).peer (length d.payload) ≡ true) where
  open scene w m o l number bytes d a is use {n, q, g, r, x, y, regions, c, e}

  abbrev count : ℕ
  count = length d.payload

  abbrev req : IsRequestAt w m o l n d
  req = at w m o l number bytes d a is paused now

  not_read : kinds.is_read (kind_of r) ≡ false
  not_read = send_not kinds.is_read refl (kind_of r) send

  not_atomic : kinds.is_atomic (kind_of r) ≡ false
  not_atomic = send_not kinds.is_atomic refl (kind_of r) send

  not_write : kinds.is_write (kind_of r) ≡ false
  not_write = send_not kinds.is_write refl (kind_of r) send

  op : IsMessage (kind_of r) (is_first_piece (g.into / g.mtu)) (is_last_piece r.request.shape g.mtu (g.into / g.mtu)) d.opcode
  op = messages.opcode_now w m o l number bytes d a is paused now not_read not_atomic

  both : owned_there e ≡ owned x
  both = owned_here w m o l n d a.stands a.live a.linked req

  mtu_same : l.terms.mtu ≡ g.mtu
  mtu_same = ap (λ (z : Link). z.terms.mtu) (sym req.link) ∙ (ap (λ t. t.mtu) req.back.exchanged ∙ req.back.mtu)

  progress_is : IsProgress (asking m o) x.domain regions l.receiver.progress
  progress_is = progress_now w m o l n d a.stands a.live a.linked req

  -- the receive that the machine uses
  received : (v : Receive) × (receive_for x ≡ Some v) × (g.into + count ≤ v.length)
  unfolding may_run may_run_kind
  received =
      fitting (receive_for x) (g.into + count)
      (ap (λ j. fits (receive_for (machine.end_of m j)) (g.into + count)) (sym req.joined.back)
      ∙ (ap (may_run_kind m q count) (sym (send_kind (kind_of r) send)) ∙ all_true (has_current m q) (may_add g count) (may_run_kind m q count (kind_of r)) runs))

  abbrev v : Receive
  v = received.0

  unused_same : e.unused ≡ x.unused
  unfolding owned_there owned
  unused_same = ap (λ z. z.unused) both

  number_same : e.number ≡ x.number
  unfolding owned_there owned
  number_same = ap (λ z. z.number) both

  queue_same : e.recv_cq ≡ x.receive_queue
  unfolding owned_there owned
  queue_same = ap (λ z. z.receive_queue) both

  in_use_same : receive_in l.receiver.progress ≡ x.in_use
  unfolding owned_there owned link_or_none
  in_use_same = ap (λ z. receive_in (link_or_none z).receiver.progress) (sym a.linked) ∙ ap (λ z. z.in_use) both

  all_receives : in_use_by l.receiver.progress ++ e.unused ≡ option_to_list x.in_use ++ x.unused
  all_receives = λ i. (in_use_is l.receiver.progress ∙ ap option_to_list in_use_same) i ++ unused_same i

  receive_same : receive_of e l.receiver.progress ≡ v
  unfolding receive_of receive_for
  receive_same = ap front all_receives ∙ first_is x.in_use x.unused v received.1

  rest_same : responder.unused_after e l.receiver.progress ≡ unused_after x
  unfolding unused_after
  rest_same = ap (drop 1) all_receives ∙ drop_used x.in_use x.unused

  before_same : bytes_before None l.receiver.progress ≡ g.into
  before_same = by_progress l.receiver.progress progress_is
    where
      by_progress : (z : Progress) → IsProgress (asking m o) x.domain regions z → bytes_before None z ≡ g.into
      by_progress NoMessage h = sym h
      by_progress (InSend done receive) h = h.1
      by_progress (InWrite region off k done) h = absurd (cc (h.2, not_write))

  begun : (g.into ≡ 0) ⊎ (g.into < size_of r)
  begun = messages.begun_now w m o l number bytes d a is paused now not_read not_atomic

  bytes_are : count ≡ piece_bytes (size_of r) g.into g.mtu
  bytes_are = messages.bytes_now w m o l number bytes d a is paused now not_read not_atomic

  last_fills : (b : Bool) → is_last_piece r.request.shape g.mtu (g.into / g.mtu) ≡ b → fills g count ≡ b
  last_fills b h = sym (messages.last_now w m o l number bytes d a is paused now not_read not_atomic) ∙ h

  more_size : fills g count ≡ false → count ≡ g.mtu
  more_size h = bytes_are ∙ (not_last (size_of r) g.into g.mtu begun (ap (λ k. g.into + k == size_of r) (sym bytes_are) ∙ h)).0

  within_mtu : count ≤ l.terms.mtu
  within_mtu = omega (arith, messages.fits_mtu w m o l number bytes d a is paused now not_read not_atomic, mtu_same)

  atomic : d.atomic ≡ None
  atomic = messages.atomic_none w m o l number bytes d a is paused now not_read not_atomic

  reth : d.reth ≡ None
  reth = messages.reth_now w m o l number bytes d a is paused now not_read not_atomic ∙ (ap (λ b. when {A = Reth} (is_first_piece (g.into / g.mtu) && b) (record { address = r.request.shape.remote; rkey = r.request.shape.rkey; length = r.request.shape.length })) not_write ∙ no_when (is_first_piece (g.into / g.mtu)))
    where
      no_when : (b : Bool) → when {A = Reth} (b && false) (record { address = r.request.shape.remote; rkey = r.request.shape.rkey; length = r.request.shape.length }) ≡ None
      no_when true = refl
      no_when false = refl

  not_zero : (k : ℕ) → 1 ≤ k → (k == 0) ≡ false
  not_zero k s = grind (arith, nat_tests, eqb_tells k 0, s)

  -- it is valid, and ready
  valid_and_ready : (is_invalid l d ≡ false) × (is_not_ready e d ≡ false)
  unfolding receive_for receive_in
  valid_and_ready = by_progress l.receiver.progress refl progress_is
    where
      some_left : (g.into ≡ 0) ⊎ (g.into < size_of r) → fills g count ≡ true → 0 < g.into → 1 ≤ count
      some_left (inl z) f k = absurd (omega (arith, z, k))
      some_left (inr s) f k = omega (arith, s, eq_of (g.into + count) (size_of r) f)

      by_progress : (z : Progress) → l.receiver.progress ≡ z → IsProgress (asking m o) x.domain regions z → (is_invalid l d ≡ false) × (is_not_ready e d ≡ false)
      by_progress NoMessage t h =
          let zero_of : g.into / g.mtu ≡ 0 = ap (λ k. k / g.mtu) h ∙ mtu_is (λ k. 0 / k ≡ 0) (omega arith) (omega arith) (omega arith) (omega arith) (omega arith) g.mtu (messages.mtu_is_one w m o l number bytes d a is paused now not_read not_atomic) in
          let first : is_first_piece (g.into / g.mtu) ≡ true = zero_is (g.into / g.mtu) zero_of in
          let place : part_of d.opcode ≡ part true (is_last_piece r.request.shape g.mtu (g.into / g.mtu)) = op.part ∙ ap (λ b. part b (is_last_piece r.request.shape g.mtu (g.into / g.mtu))) first in
          let none : x.in_use ≡ None = sym in_use_same ∙ ap receive_in t in
          let some : is_empty e.unused ≡ false = ap is_empty unused_same ∙ has_first x.unused v (ap (λ k. first_receive k x.unused) (sym none) ∙ received.1) in (
            send_first_valid l d (is_last_piece r.request.shape g.mtu (g.into / g.mtu)) t place (op.write ∙ not_write) op.read atomic (λ b. within_mtu) (λ b. more_size (last_fills false b) ∙ sym mtu_same),
            ap (λ b. ((is_send d.opcode && begins (part_of d.opcode)) || (is_write d.opcode && is_some d.imm)) && b) some ∙ and_none ((is_send d.opcode && begins (part_of d.opcode)) || (is_write d.opcode && is_some d.imm)),
          )
      by_progress (InSend done receive) t h =
          let some : 1 ≤ g.into / g.mtu = some_pieces g.into g.mtu (messages.mtu_is_one w m o l number bytes d a is paused now not_read not_atomic) (messages.whole_now w m o l number bytes d a is paused now not_read not_atomic) (omega (arith, h.0, h.1)) in
          let first : is_first_piece (g.into / g.mtu) ≡ false = not_zero (g.into / g.mtu) some in
          let place : part_of d.opcode ≡ part false (is_last_piece r.request.shape g.mtu (g.into / g.mtu)) = op.part ∙ ap (λ b. part b (is_last_piece r.request.shape g.mtu (g.into / g.mtu))) first in (
            send_later_valid l d (is_last_piece r.request.shape g.mtu (g.into / g.mtu)) done receive t place (op.send ∙ send) (op.write ∙ not_write) op.read atomic (λ b. (some_left begun (last_fills true b) (omega (arith, h.0, h.1)), within_mtu)) (λ b. more_size (last_fills false b) ∙ sym mtu_same),
            (λ i. ((is_send d.opcode && (ap begins place ∙ begins_part false (is_last_piece r.request.shape g.mtu (g.into / g.mtu))) i) || ((op.write ∙ not_write) i && is_some d.imm)) && is_empty e.unused) ∙ none_begins (is_send d.opcode) (is_some d.imm) (is_empty e.unused),
          )
      by_progress (InWrite region off k done) t h = absurd (cc (h.2, not_write))

  short_enough : nat_lt (receive_of e l.receiver.progress).length (bytes_before None l.receiver.progress + count) ≡ false
  short_enough = (λ i. nat_lt (receive_same i).length (before_same i + count)) ∙ not_less v.length (g.into + count) received.2

  step : takes c e l d ≡ send_acts c e (executed l d) d n v g.into
  step =
      step_now w m o l number bytes d a is paused now
      ∙ (expected_send c e l d n no_region (within_limit w m o l number bytes d a is paused now) op.read valid_and_ready.0 (target_none c e d atomic reth) (op.send ∙ send) valid_and_ready.1 short_enough
      ∙ (λ i. send_acts c e (executed l d) d n (receive_same i) (before_same i)))

  -- ---- memory, receives and queues

  abbrev rs : List Region
  rs = put_at local_key v.lkey (v.local + g.into) (next_bytes g count) regions

  places : All (IsLocalPlace regions x.domain) (option_to_list x.in_use ++ x.unused)
  places = (o_sound w m o l n d a.stands a.live a.linked req).receives

  place : IsLocalPlace regions x.domain v
  unfolding receive_for
  place = first_place regions x.domain x.in_use x.unused v received.1 places

  memory : landed c v.lkey (v.local + g.into) d.payload ≡ record c { regions = rs }
  memory =
      landed_put c regions x.domain v g.into d.payload (same_here w m o l n d a.stands a.live a.linked req).regions (a.stands.sound o.context).keyed_once place received.2
      ∙ ap (λ bs. record c { regions = put_at local_key v.lkey (v.local + g.into) bs regions }) (messages.next_now w m o l number bytes d a is paused now not_read not_atomic)

  said : All (λ b. b < 256) (next_bytes g count)
  unfolding cut
  said = All-take (λ b. b < 256) count (drop g.into r.payload) (All-drop (λ b. b < 256) g.into r.payload (messages.sayable_now w m o l number bytes d a is paused now not_read not_atomic).bytes)

  abbrev us : List Receive
  us = unused_after x

  abbrev used : Option Receive
  used = if fills g count then None else receive_for x

  abbrev f' : End
  f' = receiving r.request.shape (fills g count) x

  abbrev qs : List CompletionQueue
  qs = machine.completed x.receive_queue (arrivals g count x) y.queues

  f_is : f' ≡ record x { in_use = used; unused = us }
  f_is = receiving_send r (fills g count) x send

  queue_in_context : has_name (λ z. z.name) x.receive_queue y.queues ≡ true
  queue_in_context = queue_there x.receive_queue y.queues (o_sound w m o l n d a.stands a.live a.linked req).receive_queue

  connected_here : x.connected ≡ true
  unfolding owned_there owned
  connected_here = ap (λ z. z.connected) (sym both) ∙ ap is_some a.linked

  all_places : All (IsLocalPlace regions x.domain) (option_to_list used ++ us)
  unfolding unused_after
  all_places = by_fill (fills g count) (receive_for x) received.1
    where
      rest : All (IsLocalPlace regions x.domain) (if is_some x.in_use then x.unused else drop 1 x.unused)
      rest = rest_places (IsLocalPlace regions x.domain) x.in_use x.unused places

      by_fill : (b : Bool) (u : Option Receive) → u ≡ Some v → All (IsLocalPlace regions x.domain) (option_to_list (if b then None else u) ++ (if is_some x.in_use then x.unused else drop 1 x.unused))
      by_fill true u h = rest
      by_fill false u h = subst (λ k. All (IsLocalPlace regions x.domain) (option_to_list k ++ (if is_some x.in_use then x.unused else drop 1 x.unused))) (sym h) (All-cons (IsLocalPlace regions x.domain) v (if is_some x.in_use then x.unused else drop 1 x.unused) place rest)

  fewer : length us ≤ length x.unused
  unfolding unused_after
  fewer = rest_fewer x.in_use x.unused

  f_sound : IsEndSound rs (map (λ z. z.name) qs) f'
  f_sound =
      let s = o_sound w m o l n d a.stands a.live a.linked req in
      subst (IsEndSound rs (map (λ z. z.name) qs)) (sym f_is)
      (subst (λ ns. IsEndSound rs ns (record x { in_use = used; unused = us })) (sym (completed_names x.receive_queue (arrivals g count x) y.queues queue_in_context))
      (end_regions regions rs (map (λ z. z.name) y.queues) (λ domain key at' k right h. like_local regions rs domain key at' k right (put_like local_key v.lkey (v.local + g.into) (next_bytes g count) regions) ∙ h) (record x { in_use = used; unused = us })
      (receives_sound regions (map (λ z. z.name) y.queues) x used us connected_here fewer all_places s)))

  -- ---- what the responder comes to

  abbrev after_piece : Progress → Receiver
  after_piece z = record l.receiver {
    expected = l.receiver.expected + span_of_packet d l.terms.mtu d.reth;
    nak_sent = false;
    msn = (l.receiver.msn + finished d) % 16777216;
    progress = z;
  }

  link_is : (z : Progress) → in_progress (executed l d) z ≡ got l (after_piece z)
  unfolding executed words.with_receiver
  link_is z = refl

  progress_executed : (executed l d).receiver.progress ≡ l.receiver.progress
  unfolding executed words.with_receiver
  progress_executed = refl

  expected_after : (z : Progress) → (after_piece z).expected ≡ l.receiver.expected + 1
  expected_after z = ap (λ k. l.receiver.expected + k) (one_number d l.terms.mtu op.read)

  abbrev e_after : Progress → state.End
  e_after z = record e { unused = us; link = Some (got l (after_piece z)) }

  owned_after : (z : Progress) → receive_in z ≡ used → owned_there (e_after z) ≡ owned f'
  unfolding owned_there owned untold
  owned_after z h =
      ap (λ (k : Owned). record k { unused = us }) (owned_got e l (after_piece z) a.linked ∙ ap (λ u. record (owned_there e) { in_use = u }) h)
      ∙ (ap (λ (k : Owned). record k { in_use = used; unused = us }) both ∙ ap owned (sym f_is))

  requests_same : requests_of f' ≡ requests_of x
  requests_same = ap requests_of f_is

  towards_after : IsTowards (executed l d) (side_of w q) (asking m o)
  unfolding executed words.with_receiver
  towards_after = record { connected = req.towards.connected; number = req.towards.number; said = req.towards.said; start = req.towards.start }

  found_q : has_name (λ z. z.name) q.name (machine.context_of m q.context).ends ≡ true
  found_q = q_in w m o l n d a.stands a.live a.linked req

  found_o : has_name (λ z. z.name) o.name y.ends ≡ true
  found_o = o_in w m o l n d a.stands a.live a.linked req

  module _ (acted into : ℕ) (answers : List Reply) (peer : IsRunPeer w m o l number bytes d a is paused now acted into answers) (z : Progress) (uses : receive_in z ≡ used) (progress : IsProgress (moved_on (asking m o) acted into answers g.offers g.dry) x.domain regions z)
      (context : send_done (landed c v.lkey (v.local + g.into) d.payload) e (executed l d) d v (g.into + count) ≡ there_with c rs o.name (e_after z) qs) where
    abbrev g' : End
    g' = moved_on g acted into answers g.offers g.dry

    respond : IsRespond w m (run m q count) o l (after_piece z) (there_with c rs o.name (e_after z) qs) (with_parts y rs o.name f' qs) f' acted into answers g.offers g.dry
    respond =
        lands w m o l n d a.stands a.live a.linked req (machine.with_end m q g') (run m q count) (after_piece z) acted into answers g.offers g.dry rs qs (e_after z) f'
        (running.first_change m o count found_o g' req.joined.back (apart w m o l n d a.stands a.live a.linked req) found_q (made_there m q (q_there w m o l n d a.stands a.live a.linked req)))
        (running.run_send m o count found_o g' req.joined.back (apart w m o l n d a.stands a.live a.linked req) found_q (made_there m q (q_there w m o l n d a.stands a.live a.linked req)) v peer.moved send received.1)
        (running.run_numbers m o count found_o g' req.joined.back (apart w m o l n d a.stands a.live a.linked req) found_q (made_there m q (q_there w m o l n d a.stands a.live a.linked req)))
        (running.run_keys m o count found_o g' req.joined.back (apart w m o l n d a.stands a.live a.linked req) found_q (made_there m q (q_there w m o l n d a.stands a.live a.linked req)))
        (put_like local_key v.lkey (v.local + g.into) (next_bytes g count) regions)
        (put_whole local_key v.lkey (v.local + g.into) (next_bytes g count) regions (a.stands.sound o.context).whole)
        (put_said local_key v.lkey (v.local + g.into) (next_bytes g count) regions said (a.stands.sound o.context).bytes)
        (completed_names x.receive_queue (arrivals g count x) y.queues queue_in_context)
        (name_there w m o l n d a.stands a.live a.linked req) refl (owned_after z uses) requests_same f_sound
        (end_moved_sound _ _ g acted into answers g.offers g.dry (connected_now w m o l number bytes d a is paused now) peer.sound (q_sound w m o l n d a.stands a.live a.linked req))
        (peer.advance (after_piece z) (expected_after z) refl) progress

    acked : IsAnswer (side_of w q) (side_now (side_of w o) (got l (after_piece z))) (requests_of g') (requests_of f') (acknowledge (executed l d) n Ack)
    acked = ack_answer (executed l d) (side_of w q) (side_now (side_of w o) (got l (after_piece z))) (requests_of g') (requests_of f') n (record { connected = towards_after.connected; number = towards_after.number; said = towards_after.said; start = towards_after.start }) peer.acted_now

    stands_so : (b : Bool) → Stands (ran w (ended_step (home w o.context) (if b then record { context = there_with c rs o.name (e_after z) qs; took = took.Ack; sent = acknowledge (executed l d) n Ack ∷ [] } else words.stays (there_with c rs o.name (e_after z) qs) took.Acted))).world (run m q count)
    stands_so true = responds w m (run m q count) o l n d (after_piece z) (there_with c rs o.name (e_after z) qs) (with_parts y rs o.name f' qs) f' acted into answers g.offers g.dry a.stands a.live a.alive req respond took.Ack (acknowledge (executed l d) n Ack ∷ [])
        (All-cons (IsAnswer (side_of w q) (side_now (side_of w o) (got l (after_piece z))) (requests_of g') (requests_of f')) (acknowledge (executed l d) n Ack) [] acked (All-nil _))
    stands_so false = responds w m (run m q count) o l n d (after_piece z) (there_with c rs o.name (e_after z) qs) (with_parts y rs o.name f' qs) f' acted into answers g.offers g.dry a.stands a.live a.alive req respond took.Acted [] (All-nil _)

    stands_acts : Stands (ran w (ended_step (home w o.context) (send_acts c e (executed l d) d n v g.into))).world (run m q count)
    stands_acts = subst (λ k. Stands (ran w (ended_step (home w o.context) (acts k (executed l d) d n))).world (run m q count)) (sym context) (stands_so (finishes (part_of d.opcode) || d.ack_request))

    finish : Takes w m o l number d
    finish =
        takes_so w m o l number d n (steps.Run q count ∷ []) (send_acts c e (executed l d) d n v g.into) (request_at_end w m o l number bytes d a is).1 req.link is tt (runs, tt)
        (sym (carries_now w m o l number bytes d a is paused now ∙ run_steps m q count runs)) step stands_acts

  -- ---- the two cases

  name_is : e.name ≡ o.name
  name_is = name_there w m o l n d a.stands a.live a.linked req

  rest_executed : responder.unused_after e (executed l d).receiver.progress ≡ us
  rest_executed = ap (responder.unused_after e) progress_executed ∙ rest_same

  linked_used : (z : Progress) (queues : List CompletionQueue) → c.queues ≡ queues → words.linked (record c { regions = rs }) (words.with_unused e (responder.unused_after e (executed l d).receiver.progress)) (in_progress (executed l d) z) ≡ there_with c rs o.name (e_after z) queues
  unfolding words.with_unused
  linked_used z queues h = linked_over c rs o.name (record e { unused = responder.unused_after e (executed l d).receiver.progress }) (e_after z) queues (in_progress (executed l d) z) name_is (λ i. record e { unused = rest_executed i; link = Some (link_is z i) }) h

  finishes_is : finishes (part_of d.opcode) ≡ fills g count
  finishes_is = messages.finishes_now w m o l number bytes d a is paused now not_read not_atomic

  used_is : used_by r x ≡ Some v
  unfolding used_by
  used_is = ap (λ b. if b then receive_for x else if has_imm r then slice_get x.unused 0 else None) send ∙ received.1

  more : fills g count ≡ false → Takes w m o l number d
  unfolding receive_in arrivals
  more h =
      let size : count ≡ g.mtu = more_size h in
      let some : 1 ≤ count = omega (arith, size, mtu_positive g.mtu (messages.mtu_is_one w m o l number bytes d a is paused now not_read not_atomic)) in
      let none : arrivals g count x ≡ [] = ap (λ b. if b then received_whole x.number r (used_by r x) else []) h in
      let queues : c.queues ≡ qs = (same_here w m o l n d a.stands a.live a.linked req).queues ∙ sym (ap (λ k. machine.completed x.receive_queue k y.queues) none ∙ completed_none x.receive_queue y.queues queue_in_context) in
      finish g.acted (g.into + count) g.answers (more_peer w m o l number bytes d a is paused now not_read not_atomic h) (InSend (g.into + count) v)
      (sym received.1 ∙ ap (λ b. if b then None else receive_for x) (sym h))
      (omega (arith, some), refl, send, received.2)
      (ap (λ k. send_done k e (executed l d) d v (g.into + count)) memory
      ∙ (send_more (record c { regions = rs }) e (executed l d) d v (g.into + count) (finishes_is ∙ h)
      ∙ linked_used (InSend (g.into + count) v) qs queues))

  last : fills g count ≡ true → Takes w m o l number d
  unfolding arrivals received_whole
  last h =
      let imm_now : d.imm ≡ r.request.shape.imm = messages.imm_now w m o l number bytes d a is paused now not_read not_atomic ∙ ap (λ b. if b then r.request.shape.imm else None) (messages.last_now w m o l number bytes d a is paused now not_read not_atomic ∙ h) in
      let whole : g.into + count ≡ size_of r = eq_of (g.into + count) (size_of r) h in
      let arrived : arrivals g count x ≡ receive_done x.number v wc.Recv status.Success (size_of r) r.request.shape.imm ∷ [] =
      ap (λ b. if b then received_whole x.number r (used_by r x) else []) h
      ∙ (ap (received_whole x.number r) used_is ∙ (λ i. receive_done x.number v (if send i then wc.Recv else wc.RecvImm) status.Success (size_of r) r.request.shape.imm ∷ [])) in
      let entry : words.done_receive e.number wc.Recv (g.into + count) d.imm v ≡ receive_done x.number v wc.Recv status.Success (size_of r) r.request.shape.imm =
      λ i. receive_done (number_same i) v wc.Recv status.Success (whole i) (imm_now i) in
      let queues : qs ≡ with_more y.queues x.receive_queue (receive_done x.number v wc.Recv status.Success (size_of r) r.request.shape.imm ∷ []) =
      ap (λ k. machine.completed x.receive_queue k y.queues) arrived ∙ completed_is x.receive_queue (receive_done x.number v wc.Recv status.Success (size_of r) r.request.shape.imm ∷ []) y.queues queue_in_context in
      finish (suc g.acted) 0 _ (filled_peer w m o l number bytes d a is paused now not_read not_atomic h) NoMessage (none_in ∙ ap (λ b. if b then None else receive_for x) (sym h)) refl
      (ap (λ k. send_done k e (executed l d) d v (g.into + count)) memory
      ∙ (send_last (record c { regions = rs }) e (executed l d) d v (g.into + count) (finishes_is ∙ h)
      ∙ ((λ i. words.completing (linked_used NoMessage c.queues refl i) (queue_same i) (entry i ∷ []))
      ∙ (completing_there (there_with c rs o.name (e_after NoMessage) c.queues) y.queues x.receive_queue (receive_done x.number v wc.Recv status.Success (size_of r) r.request.shape.imm ∷ []) (same_here w m o l n d a.stands a.live a.linked req).queues queue_in_context
      ∙ ap (λ k. there_with c rs o.name (e_after NoMessage) k) (sym queues)))))

  pub send_taken : Takes w m o l number d
  send_taken = by_fill (fills g count) refl
    where
      by_fill : (b : Bool) → fills g count ≡ b → Takes w m o l number d
      by_fill true h = last h
      by_fill false h = more h
