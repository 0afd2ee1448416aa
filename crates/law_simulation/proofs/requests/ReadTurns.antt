-- The expected READ request, where the machine's Read has its turn: it is answered with what the machine offers.
use Rattle.std.proofs.Common.{arith, ◌≡◌, ◌<◌, ◌≤◌, ◌+◌, ◌-◌, ◌*◌, ◌/◌, ◌%◌, ℕ, zero, suc, List, [], ◌∷◌, ◌++◌, length, true, false, Bool, refl, sym, ap, ◌∙◌, subst}
use Rattle.std.specs.Prelude.{Option, Some, None, if◌then◌else◌, is_some, nat_lt, nat_le, ◌==◌, ◌&&◌, ◌||◌, All, Contains, take, drop, min, max}
use Rattle.std.proofs.lemmas.Bool.Decides.{nat_tests, leb_tells, eqb_tells}
use Rattle.std.proofs.lemmas.List.{append-nil, length-take}
use Rattle.std.proofs.lemmas.List.Elements.{All-get_or, All-head, All-tail, All-take, All-drop, Contains-append_left, Contains-append_right, All-nil, All-cons, All-weaker, All-append}
use Rattle.rdma_types.specs.declared.names.ObjName.{ObjName}
use Rattle.rdma_types.specs.declared.answers.Sent.{Sent}
use Rattle.rdma_types.specs.declared.answers.ArrivalEffect.TheVariants as took
use Rattle.rdma_types.specs.declared.answers.RefusalReason.TheVariants as whys
use Rattle.rdma_types.specs.declared.requests.Kind.{Kind}
use Rattle.rdma_types.specs.declared.requests.Kind.TheVariants as kinds'
use Rattle.rdma_types.specs.Kinds as kinds
use Rattle.rdma_types.specs.Kinds.{kind_of, lands, size_of}
use Rattle.rdma_types.specs.Limits.{is_mtu, number_limit}
use Rattle.rdma_types.specs.Memory.{RemoteRead, RemoteWrite, cut, granted, is_granted, remote_key}
use Rattle.rdma_types.specs.Objects.{Posted, Region, no_region, no_posted}
use Rattle.rdma_types.specs.Spans.{span, first_number, piece_of, request_of, pieces, span_of, piece_length}
use Rattle.protocol.specs.declared.wire.Reth.{Reth}
use Rattle.protocol.specs.State as state
use Rattle.protocol.specs.State.{World, Link, Progress, NoMessage, InSend, InWrite}
use Rattle.protocol.specs.Numbers.{wire_number}
use Rattle.protocol.specs.Segments.{read_packet, wrapped}
use Rattle.protocol.specs.Wire.{Packet}
use Rattle.protocol.specs.EndWords as words
use Rattle.protocol.specs.EndWords.{is_paused}
use Rattle.protocol.specs.Responder.{begins, is_empty, no_repeat, refuses, not_ready, refuses_length, receive_of, bytes_before, send_acts, write_acts, read_acts, atomic_acts, read_answers, read_pieces, read_piece, expected_packet, granted_packet, packet_acts, executed, is_invalid, target, target_of, reth_target, read_grant, is_send, is_write, is_read_request, span_of_packet, place_of, part_of}
use Rattle.protocol.specs.DeviceStep.{ended_step}
use Rattle.protocol.specs.WorldStep.{home, ran}
use Rattle.packetless_machine.specs.declared.reply.Reply.TheVariants.{Finished}
use Rattle.packetless_machine.specs.declared.steps.MachineStep.{MachineStep}
use Rattle.packetless_machine.specs.declared.steps.MachineStep.TheVariants as steps
use Rattle.packetless_machine.specs.Machine as machine
use Rattle.packetless_machine.specs.Machine.{Machine, End, Offered, has_end, regions_of, bytes_at, is_at}
use Rattle.packetless_machine.specs.Legal.{IsRun, after}
use Rattle.packetless_machine.specs.Sound.{IsOfferOf}
use Rattle.packetless_machine.specs.Steps.{current, has_current, may_run, may_run_kind, may_add, may_atom, may_read, is_current_granted, is_request_granted, is_granted_there, right_for, read_turn, acted_with}
use Rattle.law_simulation.specs.Packets.{class_of, IsRequest}
use Rattle.law_simulation.specs.Carries.{due_steps, offers_of, offers_from}
use Rattle.law_simulation.specs.Views.{receive_in, link_of, requests_of, side_of, owned, owned_there}
use Rattle.law_simulation.specs.Stands.{Stands}
use Rattle.law_simulation.specs.Joined.{IsProgress, IsSayable, IsUnwrapped, last_of, old_values}
use Rattle.packetless_machine.specs.Numbers.{due}
use Rattle.law_simulation.proofs.requests.Pieces.{first_suc}
use Rattle.law_simulation.specs.Facts.{IsOffered, past_packet}
use Rattle.law_simulation.proofs.relation.Tables.{name-named_there}
use Rattle.law_simulation.proofs.relation.Linked.{end_changed}
use Rattle.law_simulation.proofs.requests.Early.{same_due}
use Rattle.law_simulation.specs.Delivered.{Arrives, Takes, AreInner}
use Rattle.law_simulation.proofs.delivery.Lifted.{IsAnswer, side_now}
use Rattle.law_simulation.proofs.requests.Requests.{IsRequestAt, asking, request_at_end}
use Rattle.law_simulation.proofs.requests.Scenes.{scene}
use Rattle.law_simulation.proofs.requests.Replies.{IsTowards}
use Rattle.law_simulation.proofs.requests.Opcodes.{read_is}
use Rattle.law_simulation.proofs.requests.Due.{request_first, piece_first, mtu_is, mtu_small}
use Rattle.law_simulation.proofs.requests.Responding.{IsRespond, responds, takes_so, made_there}
use Rattle.law_simulation.proofs.requests.Advancing.{got, moved_on}
use Rattle.law_simulation.proofs.requests.Acted.{acts_advance, acted_sound, end_moved_sound, old-finished}
use Rattle.law_simulation.proofs.requests.Counting.{counts, progress_now, same_here, owned_here, q_sound, q_in, q_there, o_there, apart}
use Rattle.law_simulation.proofs.requests.Expected.{at, below_top, due_now, mtu_now, g_sound, inside, within, request_now, packet_now, connected_now, not_ended, step_now, carries_now}
use Rattle.law_simulation.proofs.requests.Written.{granted_region, granted_unwrapped, held_part, held_low}
use Rattle.law_simulation.proofs.requests.ReadAnswers.{read_answer}
use Rattle.law_simulation.proofs.requests.Offers.{offered_from, offered_contains, part_granted, bytes_remote, all_offered}

pub read_kind : (k : Kind) → kinds.is_read k ≡ true → k ≡ kinds'.Read
read_kind kinds'.Read h = refl
read_kind kinds'.Write h = absurd (cc)
read_kind kinds'.Send h = absurd (cc)
read_kind kinds'.CompareSwap h = absurd (cc)
read_kind kinds'.FetchAdd h = absurd (cc)

pub read_not : (f : Kind → Bool) → f kinds'.Read ≡ false → (k : Kind) → kinds.is_read k ≡ true → f k ≡ false
read_not f is_not k h = ap f (read_kind k h) ∙ is_not

pub all_inner : (q : ObjName) (e : End) (i k left : ℕ) → AreInner (offers_from q e i k left)
unfolding offers_from
all_inner q e i k zero = tt
all_inner q e i k (suc left) = all_inner q e i (suc k) left

-- a Read runs nothing
no_run : (m : Machine) (q : ObjName) (n : ℕ) → kinds.is_read (kind_of (current (machine.end_of m q))) ≡ true → may_run m q n ≡ false
unfolding may_run may_run_kind
no_run m q n h = ap (λ k. has_current m q && (may_add (machine.end_of m q) n && may_run_kind m q n k)) (read_kind (kind_of (current (machine.end_of m q))) h) ∙ by_tests (has_current m q) (may_add (machine.end_of m q) n)
  where
    by_tests : (p u : Bool) → (p && (u && false)) ≡ false
    by_tests true true = refl
    by_tests true false = refl
    by_tests false u = refl

no_atom : (m : Machine) (q : ObjName) → kinds.is_atomic (kind_of (current (machine.end_of m q))) ≡ false → may_atom m q ≡ false
unfolding may_atom
no_atom m q h = rw h (and_none (has_current m q))
  where
    and_none : (p : Bool) → (p && false) ≡ false
    and_none true = refl
    and_none false = refl

turn_steps : (m : Machine) (q : ObjName) (n : ℕ) → may_run m q n ≡ false → may_atom m q ≡ false → may_read m q ≡ true → due_steps m q n ≡ steps.ReadTurn q ∷ offers_of q (machine.end_of m q) (machine.end_of m q).acted 0
unfolding due_steps
turn_steps m q n a b c = rw (a, b, c) refl

pub piece_inside : (size mtu : ℕ) → is_mtu mtu ≡ true → (j : ℕ) → j < pieces size mtu → j * mtu ≤ size
unfolding pieces
piece_inside size mtu one j = mtu_is (λ k. j < max 1 ((size + (k - 1)) / k) → j * k ≤ size) (λ h. omega (arith, h)) (λ h. omega (arith, h)) (λ h. omega (arith, h)) (λ h. omega (arith, h)) (λ h. omega (arith, h)) mtu one

pub cut_short : (place n : ℕ) (bytes : List ℕ) → length (cut place n bytes) ≤ n
unfolding cut
cut_short place n bytes = omega (arith, length-take n (drop place bytes))

pub bytes_short : (key place n : ℕ) (rs : List Region) → length (bytes_at remote_key key place n rs) ≤ n
unfolding bytes_at
bytes_short key place n [] = omega arith
bytes_short key place n (x ∷ rs) = by_test (is_at remote_key key place n x) (bytes_short key place n rs)
  where
    by_test : (b : Bool) → length (bytes_at remote_key key place n rs) ≤ n → length (if b then cut (place - x.base) n x.bytes else bytes_at remote_key key place n rs) ≤ n
    by_test true later = cut_short (place - x.base) n x.bytes
    by_test false later = later

bytes_said : (key place n : ℕ) (rs : List Region) → All (λ k. All (λ b. b < 256) k.bytes) rs → All (λ b. b < 256) (bytes_at remote_key key place n rs)
unfolding bytes_at cut
bytes_said key place n [] all = All-nil _
bytes_said key place n (x ∷ rs) all = by_test (is_at remote_key key place n x) (bytes_said key place n rs (All-tail (λ k. All (λ b. b < 256) k.bytes) x rs all))
  where
    by_test : (b : Bool) → All (λ z. z < 256) (bytes_at remote_key key place n rs) → All (λ z. z < 256) (if b then take n (drop (place - x.base) x.bytes) else bytes_at remote_key key place n rs)
    by_test true later = All-take (λ z. z < 256) n (drop (place - x.base) x.bytes) (All-drop (λ z. z < 256) (place - x.base) x.bytes (All-head (λ k. All (λ z. z < 256) k.bytes) x rs all))
    by_test false later = later

pub offered_said : (rs : List Region) (r : Posted) (mtu i k left : ℕ) → All (λ z. All (λ b. b < 256) z.bytes) rs → All (λ f. All (λ b. b < 256) f.bytes) (offered_from rs r mtu i k left)
unfolding offered_from
offered_said rs r mtu i k zero all = All-nil _
offered_said rs r mtu i k (suc left) all = All-cons (λ f. All (λ b. b < 256) f.bytes) _ (offered_from rs r mtu i (suc k) left) (bytes_said r.request.shape.rkey (r.request.shape.remote + k * mtu) (min mtu (size_of r - k * mtu)) rs all) (offered_said rs r mtu i (suc k) left all)

pub offered_inside : (rs : List Region) (r : Posted) (mtu i k left total : ℕ) (q : End) → i < q.acted → machine.posted_at q.posted i ≡ r → kinds.is_read (kind_of r) ≡ true → k + left ≤ total → ((j : ℕ) → j < total → j * mtu ≤ size_of r) → All (IsOfferOf q) (offered_from rs r mtu i k left)
unfolding offered_from
offered_inside rs r mtu i k zero total q acted is read within short = All-nil _
offered_inside rs r mtu i k (suc left) total q acted is read within short =
    All-cons (IsOfferOf q) _ (offered_from rs r mtu i (suc k) left)
    (record { acted = acted; reads = ap (λ z. kinds.is_read (kind_of z)) is ∙ read; inside = omega (arith, bytes_short r.request.shape.rkey (r.request.shape.remote + k * mtu) (min mtu (size_of r - k * mtu)) rs, short k (omega (arith, within)), ap size_of is) })
    (offered_inside rs r mtu i (suc k) left total q acted is read (omega (arith, within)) short)

pub empty : (bs : List ℕ) → length bs ≤ 0 → bs ≡ []
empty [] h = refl
empty (b ∷ bs) h = absurd (omega (arith, h))

-- ---- the protocol's side

read_valid : (l : Link) (d : Packet) (h : Reth) → d.opcode ≡ 0x0C → d.reth ≡ Some h → d.atomic ≡ None → h.length ≤ 1048576 → is_invalid l d ≡ false
unfolding is_invalid part_of
read_valid l d h op reth atomic short = rw (op, reth, atomic) (grind (arith, nat_tests, short))

expected_read : (c : state.Context) (e : state.End) (l : Link) (d : Packet) (n : ℕ) (h : Reth) (region : Region) → d.opcode ≡ 0x0C → d.reth ≡ Some h → nat_le number_limit (n + pieces h.length l.terms.mtu) ≡ false → is_invalid l d ≡ false → target c e d ≡ Some region →
    expected_packet c e l d n ≡ record { context = words.linked c e (executed l d); took = took.Bytes; sent = read_answers (executed l d) region h n }
unfolding expected_packet packet_acts
expected_read c e l d n h region op reth limit valid found =
    (λ i. if nat_le number_limit (n + span_of_packet d l.terms.mtu (reth i)) then no_repeat c else if is_invalid l d then refuses c e l n whys.Invalid else granted_packet c e l d n (target c e d))
    ∙ ((λ i. if nat_le number_limit (n + (if is_read_request (op i) then pieces h.length l.terms.mtu else 1)) then no_repeat c else if is_invalid l d then refuses c e l n whys.Invalid else granted_packet c e l d n (target c e d))
    ∙ ((λ i. if limit i then no_repeat c else if valid i then refuses c e l n whys.Invalid else granted_packet c e l d n (found i))
    ∙ by_opcode))
  where
    by_opcode : granted_packet c e l d n (Some region) ≡ record { context = words.linked c e (executed l d); took = took.Bytes; sent = read_answers (executed l d) region h n }
    by_opcode = λ i.
        if ((is_send (op i) && begins (part_of d.opcode)) || (is_write (op i) && is_some d.imm)) && is_empty e.unused
        then not_ready c l n
        else if is_send (op i) && nat_lt (receive_of e l.receiver.progress).length (bytes_before None l.receiver.progress + length d.payload)
        then refuses_length c e l n
        else if is_send (op i)
        then send_acts c e (executed l d) d n (receive_of e (executed l d).receiver.progress) (bytes_before None (executed l d).receiver.progress)
        else if is_write (op i)
        then write_acts c e (executed l d) d n (place_of region d.reth (executed l d).receiver.progress)
        else if is_read_request (op i) then read_acts c e (executed l d) region n (reth i) else atomic_acts c e (executed l d) d region n d.atomic

module _ (w : World) (m : Machine) (o : ObjName) (l : Link) (number : Option ℕ) (bytes : List ℕ) (d : Packet) (a : Arrives w m o l number bytes d) (is : class_of d ≡ IsRequest) (paused : is_paused l.moving.phase ≡ false) (now : (request_at_end w m o l number bytes d a is).0 ≡ l.receiver.expected)
    (read : kinds.is_read (kind_of (current (machine.end_of m (machine.end_of m o).peer))) ≡ true) (turn : may_read m (machine.end_of m o).peer ≡ true) where
  open scene w m o l number bytes d a is use {n, q, g, r, x, regions, c, e}

  abbrev req : IsRequestAt w m o l n d
  req = at w m o l number bytes d a is paused now

  not_atomic : kinds.is_atomic (kind_of r) ≡ false
  not_atomic = read_not kinds.is_atomic refl (kind_of r) read

  none_into : g.into ≡ 0
  none_into = (g_sound w m o l number bytes d a is paused now).whole_turns (ap lands (read_kind (kind_of r) read))

  mtu_one : is_mtu g.mtu ≡ true
  mtu_one = mtu_now w m o l number bytes d a is paused now

  zero_piece : g.into / g.mtu ≡ 0
  zero_piece = ap (λ k. k / g.mtu) none_into ∙ mtu_is (λ k. 0 / k ≡ 0) (omega arith) (omega arith) (omega arith) (omega arith) (omega arith) g.mtu mtu_one

  sayable : IsSayable r
  sayable = All-get_or IsSayable g.posted g.acted no_posted (inside w m o l number bytes d a is paused now) req.back.in_pieces.sayable

  -- ---- the packet

  abbrev h : Reth
  h = record { address = r.request.shape.remote; rkey = r.request.shape.rkey; length = size_of r }

  abbrev psn : ℕ
  psn = wire_number (link_of w q).terms.own_start n

  message : d ≡ read_packet r.request.shape g.mtu 0 (link_of w q).peer psn
  message = packet_now w m o l number bytes d a is paused now ∙ (read_is r g.mtu (g.into / g.mtu) (link_of w q).peer psn read ∙ ap (λ k. read_packet r.request.shape g.mtu k (link_of w q).peer psn) zero_piece)

  opcode : d.opcode ≡ 0x0C
  unfolding read_packet
  opcode = ap (λ z. z.opcode) message

  atomic : d.atomic ≡ None
  unfolding read_packet
  atomic = ap (λ z. z.atomic) message

  payload : d.payload ≡ []
  unfolding read_packet
  payload = ap (λ z. z.payload) message

  reth : d.reth ≡ Some h
  unfolding read_packet
  reth =
      let address : wrapped (r.request.shape.remote + 0 * g.mtu) ≡ r.request.shape.remote = omega (arith, sayable.remote) in
      let size : size_of r - 0 * g.mtu ≡ size_of r = omega arith in
      ap (λ z. z.reth) message ∙ (λ i. Some (record { address = address i; rkey = r.request.shape.rkey; length = size i }))

  mtu_same : l.terms.mtu ≡ g.mtu
  mtu_same = ap (λ (z : Link). z.terms.mtu) (sym req.link) ∙ (ap (λ t. t.mtu) req.back.exchanged ∙ req.back.mtu)

  -- its numbers
  spans_are : span_of r g.mtu ≡ pieces (size_of r) g.mtu
  unfolding span
  spans_are = ap (λ b. if b then 1 else pieces (size_of r) g.mtu) not_atomic

  next_first : first_number g.posted g.mtu (suc g.acted) ≡ n + span_of r g.mtu
  unfolding due
  next_first = omega (arith, first_suc g.posted g.mtu g.acted (inside w m o l number bytes d a is paused now), due_now w m o l number bytes d a is paused now, zero_piece)

  top : first_number g.posted g.mtu (suc g.acted) ≤ (link_of w q).sender.top
  top = omega (arith, past, below_top w m o l number bytes d a is paused now)
    where
      past : past_packet (asking m o) n ≡ first_number g.posted g.mtu (suc g.acted)
      past =
          ap (λ b. if b then first_number g.posted g.mtu (suc (request_of g.posted g.mtu n)) else suc n) (ap (λ z. kinds.is_read (kind_of z)) (ap (machine.posted_at g.posted) (request_now w m o l number bytes d a is paused now)) ∙ read)
          ∙ ap (λ k. first_number g.posted g.mtu (suc k)) (request_now w m o l number bytes d a is paused now)

  limit : nat_le number_limit (n + pieces h.length l.terms.mtu) ≡ false
  limit =
      let below : n + pieces (size_of r) l.terms.mtu < 4611686018427387904 = omega (arith, next_first, spans_are, ap (pieces (size_of r)) mtu_same, top, req.back.ordered.top_end, req.back.ordered.limit) in
      grind (arith, nat_tests, leb_tells 4611686018427387904 (n + pieces (size_of r) l.terms.mtu), below)

  valid : is_invalid l d ≡ false
  valid = read_valid l d h opcode reth atomic ((g_sound w m o l number bytes d a is paused now).sizes g.acted (inside w m o l number bytes d a is paused now))

  -- ---- the grant
  granted' : is_granted remote_key regions x.domain r.request.shape.rkey r.request.shape.remote (size_of r) RemoteRead ≡ true
  unfolding may_read is_request_granted is_granted_there right_for
  granted' = ap (λ j. is_granted remote_key (regions_of m j.context) (machine.end_of m j).domain r.request.shape.rkey r.request.shape.remote (size_of r) RemoteRead) (sym req.joined.back) ∙ (ap (λ k. is_granted remote_key (regions_of m g.peer.context) (machine.end_of m g.peer).domain r.request.shape.rkey r.request.shape.remote (size_of r) (right_for k)) (sym (read_kind (kind_of r) read)) ∙ all_true (has_current m q) (kinds.is_read (kind_of r)) (is_current_granted m q) turn)
    where
      all_true : (p u v : Bool) → (p && (u && v)) ≡ true → v ≡ true
      all_true true true v h = h
      all_true true false v h = absurd (cc)
      all_true false u v h = absurd (cc)

  unwrapped : IsUnwrapped r
  unwrapped = granted_unwrapped remote_key regions x.domain r.request.shape.rkey r.request.shape.remote (size_of r) RemoteRead (a.stands.sound o.context).regions_end sayable.remote granted'

  -- ---- the machine's steps

  granted_peer : is_granted remote_key (regions_of m g.peer.context) (machine.end_of m g.peer).domain r.request.shape.rkey r.request.shape.remote (size_of r) RemoteRead ≡ true
  granted_peer = ap (λ j. is_granted remote_key (regions_of m j.context) (machine.end_of m j).domain r.request.shape.rkey r.request.shape.remote (size_of r) RemoteRead) req.joined.back ∙ granted'

  abbrev count : ℕ
  count = span_of r g.mtu

  abbrev list : List Offered
  list = offered_from (regions_of m g.peer.context) r g.mtu g.acted 0 count

  abbrev g' : End
  g' = moved_on g (suc g.acted) 0 (g.answers ++ Finished ∷ []) (g.offers ++ list) g.dry

  short : (j : ℕ) → j < count → j * g.mtu ≤ size_of r
  short j l' = piece_inside (size_of r) g.mtu mtu_one j (omega (arith, l', spans_are))

  name_q : g.name ≡ q.name
  unfolding machine.end_of
  name_q = name-named_there (λ z. z.name) (machine.nobody q) q.name (machine.context_of m q.context).ends (q_in w m o l n d a.stands a.live a.linked req)

  all : IsRun (machine.with_end m q (moved_on g (suc g.acted) 0 (g.answers ++ Finished ∷ []) (g.offers ++ []) g.dry)) (offers_from q g g.acted 0 count) × (after (machine.with_end m q (moved_on g (suc g.acted) 0 (g.answers ++ Finished ∷ []) (g.offers ++ []) g.dry)) (offers_from q g g.acted 0 count) ≡ machine.with_end m q g')
  all =
      all_offered m q g (suc g.acted) 0 (g.answers ++ Finished ∷ []) g.acted (made_there m q (q_there w m o l n d a.stands a.live a.linked req)) (q_in w m o l n d a.stands a.live a.linked req) name_q
      (connected_now w m o l number bytes d a is paused now) (ap (has_end m) req.joined.back ∙ o_there w m o l n d a.stands a.live a.linked req) (λ z. apart w m o l n d a.stands a.live a.linked req (sym (ap (λ k. k.context) (sym req.joined.back ∙ z))))
      (ap (λ j. (machine.end_of m j).ended) req.joined.back ∙ not_ended w m o l number bytes d a is paused now) (omega arith) (inside w m o l number bytes d a is paused now) read 0 (λ off j low fits. part_granted (regions_of m g.peer.context) (machine.end_of m g.peer).domain r.request.shape.rkey r.request.shape.remote (size_of r) off j fits granted_peer) count 0 count [] (omega arith) short (λ j low. omega arith)

  turned : read_turn m q ≡ machine.with_end m q (moved_on g (suc g.acted) 0 (g.answers ++ Finished ∷ []) (g.offers ++ []) g.dry)
  unfolding read_turn acted_with
  turned = ap (λ k. machine.with_end m q (moved_on g (suc g.acted) 0 (g.answers ++ Finished ∷ []) k g.dry)) (sym (append-nil g.offers))

  offers_are : offers_of q g g.acted 0 ≡ offers_from q g g.acted 0 count
  unfolding offers_of
  offers_are = let same : count - 0 ≡ count = omega arith in ap (offers_from q g g.acted 0) same

  abbrev ss : List MachineStep
  ss = steps.ReadTurn q ∷ offers_from q g g.acted 0 count

  is_run : IsRun m ss
  is_run = (turn, subst (λ z. IsRun z (offers_from q g g.acted 0 count)) (sym turned) all.0)

  after_is : after m ss ≡ machine.with_end m q g'
  after_is = ap (λ z. after z (offers_from q g g.acted 0 count)) turned ∙ all.1

  due_is : due_steps m q (length d.payload) ≡ ss
  due_is = turn_steps m q (length d.payload) (no_run m q (length d.payload) read) (no_atom m q not_atomic) turn ∙ ap (λ k. steps.ReadTurn q ∷ k) offers_are

  -- ---- what is offered is said, and lies in the Read

  regions_same : regions_of m g.peer.context ≡ regions
  regions_same = ap (λ j. regions_of m j.context) req.joined.back

  list_said : All (λ f. All (λ b. b < 256) f.bytes) list
  list_said = offered_said (regions_of m g.peer.context) r g.mtu g.acted 0 count (subst (All (λ k. All (λ b. b < 256) k.bytes)) (sym regions_same) (a.stands.sound o.context).bytes)

  list_inside : All (IsOfferOf g') list
  list_inside = offered_inside (regions_of m g.peer.context) r g.mtu g.acted 0 count count g' (omega arith) refl read (omega arith) short

  numbers_same : (machine.with_end m q g').numbers ≡ m.numbers
  unfolding machine.with_end machine.with_context
  numbers_same = refl

  keys_same : (machine.with_end m q g').keys ≡ m.keys
  unfolding machine.with_end machine.with_context
  keys_same = refl

  progress_kept : (executed l d).receiver.progress ≡ l.receiver.progress
  unfolding executed words.with_receiver
  progress_kept = refl

  expected_now : (executed l d).receiver.expected ≡ first_number g.posted g.mtu (suc g.acted)
  unfolding executed words.with_receiver
  expected_now =
      let spans : span_of_packet d l.terms.mtu d.reth ≡ pieces (size_of r) g.mtu = (λ i. span_of_packet d l.terms.mtu (reth i)) ∙ (λ i. if is_read_request (opcode i) then pieces (size_of r) (mtu_same i) else 1) in
      omega (arith, spans, spans_are, next_first, now)

  kept_now : (executed l d).receiver.kept ≡ last_of 16 (old_values g.mtu 0 g.posted (g.answers ++ Finished ∷ []))
  unfolding executed words.with_receiver
  kept_now = req.receives.kept ∙ ap (last_of 16) (sym (old-finished g.mtu g.posted g.answers (omega (arith, req.receives.answered, inside w m o l number bytes d a is paused now))))

  idle : l.receiver.progress ≡ NoMessage
  idle = by_progress l.receiver.progress (progress_now w m o l n d a.stands a.live a.linked req)
    where
      by_progress : (z : Progress) → IsProgress (asking m o) x.domain regions z → z ≡ NoMessage
      by_progress NoMessage k = refl
      by_progress (InSend done receive) k = absurd (cc (k.2, read_not kinds.is_send refl (kind_of r) read))
      by_progress (InWrite region off j done) k = absurd (cc (k.2, read_not kinds.is_write refl (kind_of r) read))

  respond : IsRespond w m (machine.with_end m q g') o l (executed l d).receiver (words.linked c e (got l (executed l d).receiver)) (machine.context_of m o.context) x (suc g.acted) 0 (g.answers ++ Finished ∷ []) (g.offers ++ list) g.dry
  respond =
      let s = g_sound w m o l number bytes d a is paused now in
      let within' : g.acted < length g.posted = inside w m o l number bytes d a is paused now in
      counts w m o l n d a.stands a.live a.linked req (machine.with_end m q g') (executed l d).receiver (suc g.acted) 0 (g.answers ++ Finished ∷ []) (g.offers ++ list) g.dry
      (end_changed m q g' (made_there m q (q_there w m o l n d a.stands a.live a.linked req)) (q_in w m o l n d a.stands a.live a.linked req)) numbers_same keys_same (ap receive_in progress_kept)
      (end_moved_sound _ _ g (suc g.acted) 0 (g.answers ++ Finished ∷ []) (g.offers ++ list) g.dry (connected_now w m o l number bytes d a is paused now)
      (acted_sound g Finished (g.offers ++ list) within' req.receives.answered not_atomic (All-append (IsOfferOf g') g.offers list (All-weaker (IsOfferOf g) (IsOfferOf g') (λ f z. record { acted = omega (arith, z.acted); reads = z.reads; inside = z.inside }) g.offers s.offers) list_inside) s)
      (q_sound w m o l n d a.stands a.live a.linked req))
      (acts_advance (asking m o) Finished (g.offers ++ list) (link_of w q).sender.top (executed l d).receiver mtu_one within' req.receives.answered (omega (arith, same_due g, due_now w m o l number bytes d a is paused now, next_first)) top
      (λ f z. Contains-append_left g.offers list f z) (All-append (λ f. All (λ b. b < 256) f.bytes) g.offers list req.back.in_pieces.offers list_said) req.back.in_pieces (λ h. unwrapped) tt expected_now kept_now)
      (subst (IsProgress (moved_on (asking m o) (suc g.acted) 0 (g.answers ++ Finished ∷ []) (g.offers ++ list) g.dry) x.domain regions) (sym (progress_kept ∙ idle)) refl)

  -- ---- the answers

  towards : IsTowards (executed l d) (side_of w q) (requests_of g')
  unfolding executed words.with_receiver
  towards = record { connected = req.towards.connected; number = req.towards.number; said = req.towards.said; start = req.towards.start }

  executed_mtu : (executed l d).terms.mtu ≡ g.mtu
  unfolding executed words.with_receiver
  executed_mtu = mtu_same

  domain_same : e.domain ≡ x.domain
  unfolding owned_there owned
  domain_same = ap (λ z. z.domain) (owned_here w m o l n d a.stands a.live a.linked req)

  paired : All (λ z. z.keys.remote ≡ suc z.keys.local) regions
  paired = All-weaker (λ z. Contains m.keys z.keys.local × (z.keys.local % 2 ≡ 0) × (z.keys.remote ≡ suc z.keys.local)) (λ z. z.keys.remote ≡ suc z.keys.local) (λ z k. k.2) regions (a.stands.sound o.context).keyed

  -- the region, and the bytes at each piece of it
  pub record IsReadAt (region : Region) : Type 0 where
    pub is_target : target c e d ≡ Some region
    pub same_bytes : (k : ℕ) → k < count → bytes_at remote_key r.request.shape.rkey (r.request.shape.remote + k * g.mtu) (min g.mtu (size_of r - k * g.mtu)) regions ≡ cut ((r.request.shape.remote - region.base) + k * g.mtu) (min g.mtu (size_of r - k * g.mtu)) region.bytes

  reads : target c e d ≡ (if size_of r == 0 then Some no_region else read_grant c e h RemoteRead)
  unfolding target
  reads = ap (target_of c e d) atomic ∙ (ap (reth_target c e d.opcode) reth ∙ (λ i. if size_of r == 0 then Some no_region else read_grant c e h (if is_read_request (opcode i) then RemoteRead else RemoteWrite)))

  read_at : (b : Bool) → (size_of r == 0) ≡ b → (region : Region) × IsReadAt region
  read_at true t =
      let none : size_of r ≡ 0 = grind (arith, nat_tests, eqb_tells (size_of r) 0, t) in
      (no_region, record { is_target = reads ∙ ap (λ b. if b then Some no_region else read_grant c e h RemoteRead) t; same_bytes = λ k l'. nothing_there k (omega (arith, none)) })
    where
      nothing_there : (k : ℕ) → min g.mtu (size_of r - k * g.mtu) ≡ 0 → bytes_at remote_key r.request.shape.rkey (r.request.shape.remote + k * g.mtu) (min g.mtu (size_of r - k * g.mtu)) regions ≡ cut ((r.request.shape.remote - no_region.base) + k * g.mtu) (min g.mtu (size_of r - k * g.mtu)) no_region.bytes
      nothing_there k z = empty _ (omega (arith, bytes_short r.request.shape.rkey (r.request.shape.remote + k * g.mtu) (min g.mtu (size_of r - k * g.mtu)) regions, z)) ∙ sym (empty _ (omega (arith, cut_short ((r.request.shape.remote - no_region.base) + k * g.mtu) (min g.mtu (size_of r - k * g.mtu)) no_region.bytes, z)))
  read_at false t =
      let some : 1 ≤ size_of r = grind (arith, nat_tests, eqb_tells (size_of r) 0, t) in
      let z = granted_region remote_key regions x.domain r.request.shape.rkey r.request.shape.remote (size_of r) RemoteRead some granted' in (
        z.0,
        record {
          is_target = reads ∙ (ap (λ b. if b then Some no_region else read_grant c e h RemoteRead) t ∙ ((λ i. granted remote_key ((same_here w m o l n d a.stands a.live a.linked req).regions i) (domain_same i) r.request.shape.rkey r.request.shape.remote (size_of r) RemoteRead) ∙ z.1));
          same_bytes = λ k l'.
              bytes_remote r.request.shape.rkey (r.request.shape.remote + k * g.mtu) (min g.mtu (size_of r - k * g.mtu)) z.0 regions paired (a.stands.sound o.context).keyed_once z.2.there z.2.named (held_part z.0 r.request.shape.remote (size_of r) (k * g.mtu) (min g.mtu (size_of r - k * g.mtu)) z.2.held (omega (arith, short k l')))
              ∙ at_place z.0 k (held_low z.0 r.request.shape.remote (size_of r) z.2.held);
        },
      )
    where
      at_place : (u : Region) (k : ℕ) → u.base ≤ r.request.shape.remote → cut ((r.request.shape.remote + k * g.mtu) - u.base) (min g.mtu (size_of r - k * g.mtu)) u.bytes ≡ cut ((r.request.shape.remote - u.base) + k * g.mtu) (min g.mtu (size_of r - k * g.mtu)) u.bytes
      at_place u k low = let same : (r.request.shape.remote + k * g.mtu) - u.base ≡ (r.request.shape.remote - u.base) + k * g.mtu = omega (arith, low) in ap (λ j. cut j (min g.mtu (size_of r - k * g.mtu)) u.bytes) same

  n_is : n ≡ first_number g.posted g.mtu g.acted
  unfolding due
  n_is = omega (arith, due_now w m o l number bytes d a is paused now, zero_piece)

  -- piece k is of this Read
  request_k : (k : ℕ) → k < count → request_of g.posted g.mtu (n + k) ≡ g.acted
  request_k k l' = ap (λ z. request_of g.posted g.mtu (z + k)) n_is ∙ request_first g.posted g.mtu g.acted k (inside w m o l number bytes d a is paused now) l'

  piece_k : (k : ℕ) → k < count → piece_of g.posted g.mtu (n + k) ≡ k
  piece_k k l' = ap (λ z. piece_of g.posted g.mtu (z + k)) n_is ∙ piece_first g.posted g.mtu g.acted k (inside w m o l number bytes d a is paused now) l'

  abbrev IsSent : Sent → Type 0
  IsSent = IsAnswer (side_of w q) (side_now (side_of w o) (got l (executed l d).receiver)) (requests_of g') (requests_of x)

  module _ (region : Region) (there : IsReadAt region) where
    abbrev off : ℕ
    off = r.request.shape.remote - region.base

    abbrev piece_bytes' : ℕ → List ℕ
    piece_bytes' k = cut (off + k * (executed l d).terms.mtu) (piece_length (size_of r) k (executed l d).terms.mtu) region.bytes

    bytes_k : (k : ℕ) → k < count → bytes_at remote_key r.request.shape.rkey (r.request.shape.remote + k * g.mtu) (min g.mtu (size_of r - k * g.mtu)) (regions_of m g.peer.context) ≡ piece_bytes' k
    bytes_k k l' =
        ap (λ z. bytes_at remote_key r.request.shape.rkey (r.request.shape.remote + k * g.mtu) (min g.mtu (size_of r - k * g.mtu)) z) regions_same
        ∙ (there.same_bytes k l' ∙ ap (λ z. cut (off + k * z) (min z (size_of r - k * z)) region.bytes) (sym executed_mtu))

    offered_k : (k : ℕ) → k < count → IsOffered (requests_of g') (n + k) (piece_bytes' k)
    offered_k k l' = record {
      acted = omega (arith, request_k k l');
      is_read = ap (λ z. kinds.is_read (kind_of (machine.posted_at g.posted z))) (request_k k l') ∙ read;
      offer = subst (λ z. Contains (g.offers ++ list) z) (λ i. record { request = sym (request_k k l') i; offset = ap (λ z. z * g.mtu) (sym (piece_k k l')) i; bytes = bytes_k k l' i })
          (Contains-append_right g.offers list _ (offered_contains (regions_of m g.peer.context) r g.mtu g.acted 0 count k (omega arith) (omega (arith, l'))));
    }

    answer_k : (k : ℕ) → k < count → IsSent (read_piece (executed l d) region off (size_of r) n k)
    answer_k k l' =
        read_answer (executed l d) (side_of w q) (side_now (side_of w o) (got l (executed l d).receiver)) (requests_of g') (requests_of x) (n + k) (piece_bytes' k) towards
        (omega (arith, cut_short (off + k * (executed l d).terms.mtu) (piece_length (size_of r) k (executed l d).terms.mtu) region.bytes, executed_mtu, mtu_small g.mtu mtu_one))
        (offered_k k l') k (pieces (size_of r) (executed l d).terms.mtu)

    all_answers : (left : ℕ) → left ≤ count → All IsSent (read_pieces (executed l d) region off (size_of r) n left)
    unfolding read_pieces
    all_answers zero h' = All-nil IsSent
    all_answers (suc left) h' =
        All-cons IsSent (read_piece (executed l d) region off (size_of r) n (pieces (size_of r) (executed l d).terms.mtu - suc left)) (read_pieces (executed l d) region off (size_of r) n left)
        (answer_k (pieces (size_of r) (executed l d).terms.mtu - suc left) (omega (arith, h', spans_are, ap (pieces (size_of r)) executed_mtu)))
        (all_answers left (omega (arith, h')))

    link_is : executed l d ≡ got l (executed l d).receiver
    unfolding executed words.with_receiver
    link_is = refl

    stands_read : Stands (ran w (ended_step (home w o.context) (record { context = words.linked c e (executed l d); took = took.Bytes; sent = read_answers (executed l d) region h n }))).world (after m ss)
    stands_read =
        subst (Stands _) (sym after_is)
        (subst (λ z. Stands (ran w (ended_step (home w o.context) (record { context = words.linked c e z; took = took.Bytes; sent = read_answers (executed l d) region h n }))).world (machine.with_end m q g')) (sym link_is)
        (responds w m (machine.with_end m q g') o l n d (executed l d).receiver (words.linked c e (got l (executed l d).receiver)) (machine.context_of m o.context) x (suc g.acted) 0 (g.answers ++ Finished ∷ []) (g.offers ++ list) g.dry a.stands a.live a.alive req respond took.Bytes (read_answers (executed l d) region h n)
        (all_answers (pieces (size_of r) (executed l d).terms.mtu) (omega (arith, spans_are, ap (pieces (size_of r)) executed_mtu)))))

    read_so : Takes w m o l number d
    read_so =
        takes_so w m o l number d n ss (record { context = words.linked c e (executed l d); took = took.Bytes; sent = read_answers (executed l d) region h n }) (request_at_end w m o l number bytes d a is).1 req.link is (all_inner q g g.acted 0 count) is_run
        (sym (carries_now w m o l number bytes d a is paused now ∙ due_is))
        (step_now w m o l number bytes d a is paused now ∙ expected_read c e l d n h region opcode reth limit valid there.is_target) stands_read

  pub read_taken : Takes w m o l number d
  read_taken = let z = read_at (size_of r == 0) refl in read_so z.0 z.1
