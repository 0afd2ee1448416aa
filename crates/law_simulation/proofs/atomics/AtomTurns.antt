-- The expected atomic, where the machine may let it act: the whole step.
use Rattle.std.proofs.Common.{arith, ◌≡◌, ◌<◌, ◌≤◌, ◌^◌, ◌+◌, ◌-◌, ◌/◌, ◌%◌, ℕ, suc, List, [], ◌∷◌, ◌++◌, map, length, true, false, Bool, refl, sym, ap, ◌∙◌, subst}
use Rattle.std.specs.Prelude.{Option, Some, None, if◌then◌else◌, is_some, not, nat_lt, ◌&&◌, ◌||◌, All, Contains, drop, take, slice_get}
use Rattle.std.proofs.lemmas.List.{length-take, length-drop}
use Rattle.std.proofs.lemmas.List.Elements.{All-nil, All-cons, All-weaker, All-take, All-drop, All-contains}
use Rattle.rdma_types.specs.declared.names.ObjName.{ObjName}
use Rattle.rdma_types.specs.declared.answers.ArrivalEffect.TheVariants as took
use Rattle.rdma_types.specs.declared.answers.RefusalReason.TheVariants as whys
use Rattle.rdma_types.specs.Kinds as kinds
use Rattle.rdma_types.specs.Kinds.{kind_of, size_of}
use Rattle.rdma_types.specs.Limits.{is_mtu, most_kept}
use Rattle.rdma_types.specs.Lists.{has_name, store_named}
use Rattle.rdma_types.specs.Memory.{RemoteAtomic, cut, granted, is_granted, remote_key, word_bytes, word_of}
use Rattle.rdma_types.specs.Objects.{IsWhole, Posted, Region}
use Rattle.rdma_types.specs.Spans.{first_number, request_of}
use Rattle.protocol.specs.State as state
use Rattle.protocol.specs.State.{World, Link, Receiver, Progress, NoMessage, InSend, InWrite}
use Rattle.protocol.specs.Memory.{word_at, written}
use Rattle.protocol.specs.Wire.{Packet}
use Rattle.protocol.specs.EndWords as words
use Rattle.protocol.specs.EndWords.{is_paused}
use Rattle.protocol.specs.EndStep.{takes}
use Rattle.protocol.specs.Responder.{Place, atomic_acts, atomic_done, begins, bytes_before, executed, granted_packet, is_empty, is_invalid, is_send, is_write, keeping, keeps, not_ready, old_answer, packet_acts, part_of, place_of, read_acts, receive_of, refuses, refuses_length, send_acts, span_of_packet, target, target_of, write_acts}
use Rattle.protocol.specs.DeviceStep.{ended_step}
use Rattle.protocol.specs.WorldStep.{home, ran}
use Rattle.packetless_machine.specs.declared.reply.Reply.TheVariants.{OldValue}
use Rattle.packetless_machine.specs.declared.reply.Reply.{Reply}
use Rattle.packetless_machine.specs.declared.steps.MachineStep.TheVariants as steps
use Rattle.packetless_machine.specs.Machine as machine
use Rattle.packetless_machine.specs.Machine.{Machine, End, has_context, nobody, put_at, regions_of}
use Rattle.packetless_machine.specs.Numbers.{due}
use Rattle.packetless_machine.specs.Steps.{acted_with, atom, atom_on, changed_word, current, has_current, is_current_granted, is_misaligned, may_add, may_atom, may_run, may_run_kind, right_for, word_there}
use Rattle.law_simulation.specs.Packets.{class_of, IsRequest}
use Rattle.law_simulation.specs.Carries.{due_steps}
use Rattle.law_simulation.specs.Facts.{IsOld}
use Rattle.law_simulation.specs.Views.{link_of, owned, owned_there, receive_in, requests_of, side_of, Owned}
use Rattle.law_simulation.specs.Joined.{IsProgress, is_granted_in, last_of, old_value, old_values}
use Rattle.law_simulation.specs.Stands.{Stands, IsEndSound}
use Rattle.law_simulation.proofs.relation.Machines as machines
use Rattle.law_simulation.proofs.relation.Machines.{MachineChanged}
use Rattle.law_simulation.proofs.relation.Linked.{context_with}
use Rattle.law_simulation.proofs.relation.Sounds.{end_regions}
use Rattle.law_simulation.specs.Delivered.{Arrives, Takes}
use Rattle.law_simulation.proofs.delivery.Arriving.{stored_again}
use Rattle.law_simulation.proofs.delivery.Lifted.{IsAnswer, side_now}
use Rattle.law_simulation.proofs.requests.Requests.{IsRequestAt, asking, request_at_end}
use Rattle.law_simulation.proofs.requests.Scenes.{scene}
use Rattle.law_simulation.proofs.requests.Replies.{IsTowards}
use Rattle.law_simulation.proofs.requests.Due.{mtu_is, span_atomic}
use Rattle.law_simulation.proofs.requests.Early.{same_due}
use Rattle.law_simulation.proofs.requests.Responding.{IsRespond, responds, takes_so, made_there}
use Rattle.law_simulation.proofs.requests.Advancing.{got, moved_on}
use Rattle.law_simulation.proofs.requests.Acted.{acts_advance, acted_sound, end_moved_sound, got_last, offers_acted, old-more}
use Rattle.law_simulation.proofs.requests.Counting.{apart, name_there, o_in, o_sound, owned_got, owned_here, progress_now, q_in, q_sound, q_there, same_here}
use Rattle.law_simulation.proofs.requests.Expected.{at, carries_now, connected_now, due_now, g_sound, inside, mtu_now, request_now, step_now}
use Rattle.law_simulation.proofs.delivery.Regions.{like_local, put_like, put_said, put_whole}
use Rattle.law_simulation.proofs.requests.Written.{IsGrantedBy, granted_region, held_high, held_low, written_put}
use Rattle.law_simulation.proofs.requests.Running as running
use Rattle.law_simulation.proofs.requests.Runs.{next_first, piece_top}
use Rattle.law_simulation.proofs.requests.Landing.{lands, there_with, with_parts}
use Rattle.law_simulation.proofs.requests.Offers.{bytes_remote}
use Rattle.law_simulation.proofs.requests.Checks as checks
use Rattle.law_simulation.proofs.delivery.Words.{word_length, word_said}
use Rattle.law_simulation.proofs.atomics.Words.{keeping_last, word_small}
use Rattle.law_simulation.proofs.atomics.OldAnswers.{old_is_answer}
use Rattle.law_simulation.proofs.atomics.AtomPackets.{IsAtomicPacket, atomic_not, atomic_packet_is, atomic_right, header_of}

-- ---- tests

three : (p u v z : Bool) → (p && (u && (not v && z))) ≡ true → (u ≡ true) × (v ≡ false) × (z ≡ true)
three true true false true h = (refl, refl, refl)
three true true false false h = absurd (cc)
three true true true z h = absurd (cc)
three true false v z h = absurd (cc)
three false u v z h = absurd (cc)

-- an atomic runs nothing
no_run : (m : Machine) (q : ObjName) (n : ℕ) → kinds.is_atomic (kind_of (current (machine.end_of m q))) ≡ true → may_run m q n ≡ false
unfolding may_run may_run_kind
no_run m q n h = by_tests (has_current m q) (may_add (machine.end_of m q) n) (may_run_kind m q n (kind_of (current (machine.end_of m q)))) (atomic_not (may_run_kind m q n) refl refl (kind_of (current (machine.end_of m q))) h)
  where
    by_tests : (p u v : Bool) → v ≡ false → (p && (u && v)) ≡ false
    by_tests p u true t = absurd (cc)
    by_tests true true false t = refl
    by_tests true false false t = refl
    by_tests false u false t = refl

atom_steps : (m : Machine) (q : ObjName) (n : ℕ) → may_run m q n ≡ false → may_atom m q ≡ true → due_steps m q n ≡ steps.Atom q ∷ []
unfolding due_steps
atom_steps m q n a b = rw (a, b) refl

-- ---- the protocol's side

expected_atomic : (c : state.Context) (e : state.End) (l : Link) (r : Posted) (d : Packet) (n : ℕ) (region : Region) → IsAtomicPacket r d → is_invalid l d ≡ false → target c e d ≡ Some region →
    (if is_invalid l d then refuses c e l n whys.Invalid else granted_packet c e l d n (target c e d)) ≡ atomic_done c e (executed l d) d region n (header_of r) (word_at region (r.request.shape.remote - region.base))
unfolding packet_acts
expected_atomic c e l r d n region h valid found =
    (λ i. if valid i then refuses c e l n whys.Invalid else granted_packet c e l d n (found i))
    ∙ (λ i.
    if ((is_send_is i && begins (part_of d.opcode)) || (is_write_is i && is_some d.imm)) && is_empty e.unused
    then not_ready c l n
    else if is_send_is i && nat_lt (receive_of e l.receiver.progress).length (bytes_before None l.receiver.progress + length d.payload)
    then refuses_length c e l n
    else if is_send_is i
    then send_acts c e (executed l d) d n (receive_of e (executed l d).receiver.progress) (bytes_before None (executed l d).receiver.progress)
    else if is_write_is i
    then write_acts c e (executed l d) d n (place_of region d.reth (executed l d).receiver.progress)
    else if h.read i then read_acts c e (executed l d) region n d.reth else atomic_acts c e (executed l d) d region n (h.header i))
  where
    is_send_is : is_send d.opcode ≡ false
    is_send_is = h.send

    is_write_is : is_write d.opcode ≡ false
    is_write_is = h.write

-- the context with the memory, and then the end
linked_over : (c : state.Context) (rs : List Region) (n : List ℕ) (e e' : state.End) (l : Link) → e.name ≡ n → record e { link = Some l } ≡ e' → words.linked (record c { regions = rs }) e l ≡ there_with c rs n e' c.queues
unfolding words.with_end words.with_link
linked_over c rs n e e' l named' same = λ i. record c { regions = rs; ends = store_named (λ z. z.name) (named' i) (same i) c.ends; queues = c.queues }

module _ (w : World) (m : Machine) (o : ObjName) (l : Link) (number : Option ℕ) (bytes : List ℕ) (d : Packet) (a : Arrives w m o l number bytes d) (is : class_of d ≡ IsRequest) (paused : is_paused l.moving.phase ≡ false) (now : (request_at_end w m o l number bytes d a is).0 ≡ l.receiver.expected)
    (turn : may_atom m (machine.end_of m o).peer ≡ true) where
  open scene w m o l number bytes d a is use {n, q, g, r, x, y, regions, c, e}

  abbrev req : IsRequestAt w m o l n d
  req = at w m o l number bytes d a is paused now

  tests : (kinds.is_atomic (kind_of r) ≡ true) × (is_misaligned r ≡ false) × (is_current_granted m q ≡ true)
  unfolding may_atom
  tests = three (has_current m q) (kinds.is_atomic (kind_of r)) (is_misaligned r) (is_current_granted m q) turn

  atomic : kinds.is_atomic (kind_of r) ≡ true
  atomic = tests.0

  not_read : kinds.is_read (kind_of r) ≡ false
  not_read = atomic_not kinds.is_read refl refl (kind_of r) atomic

  not_send : kinds.is_send (kind_of r) ≡ false
  not_send = atomic_not kinds.is_send refl refl (kind_of r) atomic

  not_write : kinds.is_write (kind_of r) ≡ false
  not_write = atomic_not kinds.is_write refl refl (kind_of r) atomic

  packet : IsAtomicPacket r d
  packet =
      let p = checks.atomic_now w m o l number bytes d a is paused now not_read atomic in
      subst (IsAtomicPacket r) (sym p.1) (atomic_packet_is r (link_of w q).peer p.0 atomic)

  size_word : size_of r ≡ 8
  size_word = (checks.sayable w m o l number bytes d a is paused now).word atomic

  mtu_one : is_mtu g.mtu ≡ true
  mtu_one = mtu_now w m o l number bytes d a is paused now

  none_into : g.into ≡ 0
  none_into = checks.atomic_whole w m o l number bytes d a is paused now not_read atomic

  zero_piece : g.into / g.mtu ≡ 0
  zero_piece = ap (λ k. k / g.mtu) none_into ∙ mtu_is (λ k. 0 / k ≡ 0) (omega arith) (omega arith) (omega arith) (omega arith) (omega arith) g.mtu mtu_one

  -- ---- the grant

  granted_in : is_granted_in x.domain regions r ≡ true
  unfolding is_granted_in
  granted_in =
      (λ i. is_granted remote_key (sym (checks.regions_here w m o l number bytes d a is paused now) i) (sym (checks.domain_here w m o l number bytes d a is paused now) i) r.request.shape.rkey r.request.shape.remote (size_of r) (right_for (kind_of r)))
      ∙ (sym (checks.granted_here w m o l number bytes d a is paused now) ∙ tests.2)

  granted_word : is_granted remote_key regions x.domain r.request.shape.rkey r.request.shape.remote 8 RemoteAtomic ≡ true
  unfolding is_granted_in
  granted_word = (λ i. is_granted remote_key regions x.domain r.request.shape.rkey r.request.shape.remote (sym size_word i) (sym (atomic_right (kind_of r) atomic) i)) ∙ granted_in

  found : (z : Region) × (granted remote_key regions x.domain r.request.shape.rkey r.request.shape.remote 8 RemoteAtomic ≡ Some z) × IsGrantedBy remote_key regions r.request.shape.rkey r.request.shape.remote 8 RemoteAtomic z
  found = granted_region remote_key regions x.domain r.request.shape.rkey r.request.shape.remote 8 RemoteAtomic (omega arith) granted_word

  abbrev region : Region
  region = found.0

  by : IsGrantedBy remote_key regions r.request.shape.rkey r.request.shape.remote 8 RemoteAtomic region
  by = found.2

  is_target : target c e d ≡ Some region
  unfolding target
  is_target = (λ i. target_of c e d (packet.header i)) ∙ ((λ i. granted remote_key (checks.regions_here w m o l number bytes d a is paused now i) (checks.domain_here w m o l number bytes d a is paused now i) r.request.shape.rkey r.request.shape.remote 8 RemoteAtomic) ∙ found.1)

  low : region.base ≤ r.request.shape.remote
  low = held_low region r.request.shape.remote 8 by.held

  high : r.request.shape.remote + 8 ≤ region.base + region.length
  high = held_high region r.request.shape.remote 8 by.held

  paired : All (λ z. z.keys.remote ≡ suc z.keys.local) regions
  paired = All-weaker (λ z. Contains m.keys z.keys.local × (z.keys.local % 2 ≡ 0) × (z.keys.remote ≡ suc z.keys.local)) (λ z. z.keys.remote ≡ suc z.keys.local) (λ z h. h.2) regions (a.stands.sound o.context).keyed

  -- ---- the old word, and the new one

  abbrev old : ℕ
  old = word_there r regions

  same_word : word_at region (r.request.shape.remote - region.base) ≡ old
  unfolding word_there
  same_word = ap word_of (sym (bytes_remote r.request.shape.rkey r.request.shape.remote 8 region regions paired (a.stands.sound o.context).keyed_once by.there by.named by.held))

  old_small : old < 2 ^ 64
  unfolding cut
  old_small =
      let whole : length region.bytes ≡ region.length = All-contains IsWhole regions region (a.stands.sound o.context).whole by.there in
      let off : ℕ = r.request.shape.remote - region.base in
      let eight : length (take 8 (drop off region.bytes)) ≡ 8 = omega (arith, length-take 8 (drop off region.bytes), length-drop off region.bytes, whole, low, high) in
      let said : All (λ b. b < 256) (take 8 (drop off region.bytes)) = All-take (λ b. b < 256) 8 (drop off region.bytes) (All-drop (λ b. b < 256) off region.bytes (All-contains (λ z. All (λ b. b < 256) z.bytes) regions region (a.stands.sound o.context).bytes by.there)) in
      omega (arith, word_small (take 8 (drop off region.bytes)) eight said, same_word)

  abbrev new : List ℕ
  new = word_bytes (changed_word r old)

  abbrev rs : List Region
  rs = put_at remote_key r.request.shape.rkey r.request.shape.remote new regions

  abbrev place : Place
  place = record { region = region.keys.local; off = r.request.shape.remote - region.base; length = 8; done = 0 }

  memory : written c region.keys.local (r.request.shape.remote - region.base) new ≡ record c { regions = rs }
  memory =
      let from : (r.request.shape.remote - region.base) + 0 ≡ r.request.shape.remote - region.base = omega arith in
      let to : r.request.shape.remote + 0 ≡ r.request.shape.remote = omega arith in
      ap (λ k. written c region.keys.local k new) (sym from)
      ∙ (written_put c regions x.domain r 0 place new (checks.regions_here w m o l number bytes d a is paused now) paired (a.stands.sound o.context).keyed_once granted_in
      (λ some. record { length = sym size_word; done = refl; writing = record { region = region; there = by.there; local = refl; remote = by.named; place = omega (arith, low) } })
      (omega (arith, word_length (changed_word r old), size_word))
      ∙ ap (λ k. record c { regions = put_at remote_key r.request.shape.rkey k new regions }) to)

  -- ---- the counts

  abbrev answers : List Reply
  answers = g.answers ++ OldValue old ∷ []

  abbrev g' : End
  g' = moved_on g (suc g.acted) 0 answers g.offers g.dry

  answered : length g.answers ≡ g.acted
  answered = req.receives.answered

  next : first_number g.posted g.mtu (suc g.acted) ≡ n + 1
  next = next_first w m o l number bytes d a is paused now 0 zero_piece (omega (arith, span_atomic r g.mtu atomic))

  n_first : n ≡ first_number g.posted g.mtu g.acted
  unfolding due
  n_first = omega (arith, due_now w m o l number bytes d a is paused now, zero_piece)

  abbrev r' : Receiver
  r' = (keeps (executed l d) n old).receiver

  expected_now : r'.expected ≡ first_number g.posted g.mtu (suc g.acted)
  unfolding executed words.with_receiver
  expected_now = omega (arith, ap (span_of_packet d l.terms.mtu) packet.reth, next, now)

  kept_now : r'.kept ≡ last_of most_kept (old_values g.mtu 0 g.posted answers)
  unfolding executed words.with_receiver old_value
  kept_now =
      let number' : 0 + first_number g.posted g.mtu (length g.answers) ≡ n = omega (arith, n_first, ap (first_number g.posted g.mtu) answered) in
      ap (λ ks. keeping ks (record { number = n; old = old })) req.receives.kept
      ∙ (keeping_last (old_values g.mtu 0 g.posted g.answers) (record { number = n; old = old })
      ∙ ap (last_of most_kept) (sym (old-more g.mtu 0 g.posted g.answers (OldValue old) (omega (arith, answered, inside w m o l number bytes d a is paused now)) ∙ ap (λ k. old_values g.mtu 0 g.posted g.answers ++ record { number = k; old = old } ∷ []) number')))

  progress_same : r'.progress ≡ l.receiver.progress
  unfolding executed words.with_receiver
  progress_same = refl

  idle : l.receiver.progress ≡ NoMessage
  idle = by_progress l.receiver.progress (progress_now w m o l n d a.stands a.live a.linked req)
    where
      by_progress : (z : Progress) → IsProgress (asking m o) x.domain regions z → z ≡ NoMessage
      by_progress NoMessage k = refl
      by_progress (InSend done receive) k = absurd (cc (k.2, not_send))
      by_progress (InWrite key off j done) k = absurd (cc (k.2, not_write))

  -- ---- the machine's step

  found_q : has_name (λ z. z.name) q.name (machine.context_of m q.context).ends ≡ true
  found_q = q_in w m o l n d a.stands a.live a.linked req

  found_o : has_name (λ z. z.name) o.name y.ends ≡ true
  found_o = o_in w m o l n d a.stands a.live a.linked req

  context_q : has_context m q.context ≡ true
  context_q = made_there m q (q_there w m o l n d a.stands a.live a.linked req)

  abbrev m1 : Machine
  m1 = machine.with_end m q g'

  first : MachineChanged m m1 q.context (context_with m q g')
  first = running.first_change m o 0 found_o g' req.joined.back (apart w m o l n d a.stands a.live a.linked req) found_q context_q

  atom_is : atom m q ≡ machine.with_regions m1 o.context rs
  unfolding atom atom_on acted_with
  atom_is =
      ap (λ (j : ObjName). atom_on m q j.context r (word_there r (regions_of m j.context))) req.joined.back
      ∙ ap (λ z. machine.with_regions m1 o.context (put_at remote_key r.request.shape.rkey r.request.shape.remote new z.regions)) (machines.context_other m m1 q.context (context_with m q g') first o.context (λ h. apart w m o l n d a.stands a.live a.linked req (sym h)))

  second : MachineChanged m1 (atom m q) o.context (with_parts y rs o.name x y.queues)
  unfolding machine.end_of
  second =
      subst (λ k. MachineChanged m1 k o.context (with_parts y rs o.name x y.queues)) (sym atom_is)
      (subst (λ es. MachineChanged m1 (machine.with_regions m1 o.context rs) o.context (record y { regions = rs; ends = es })) (sym (stored_again (λ z. z.name) (nobody o) o.name y.ends found_o))
      (running.regions_changed m1 m1 o.context y rs (running.start_change m o 0 found_o g' req.joined.back (apart w m o l n d a.stands a.live a.linked req) found_q context_q)))

  numbers_same : (atom m q).numbers ≡ m.numbers
  unfolding atom atom_on machine.with_regions machine.with_end machine.with_context
  numbers_same = refl

  keys_same : (atom m q).keys ≡ m.keys
  unfolding atom atom_on machine.with_regions machine.with_end machine.with_context
  keys_same = refl

  -- ---- the responder

  both : owned_there e ≡ owned x
  both = owned_here w m o l n d a.stands a.live a.linked req

  abbrev e' : state.End
  e' = record e { link = Some (got l r') }

  owned_after : owned_there e' ≡ owned x
  unfolding owned
  owned_after =
      owned_got e l r' a.linked
      ∙ (ap (λ v. record (owned_there e) { in_use = v }) (ap receive_in progress_same ∙ checks.in_use_here w m o l number bytes d a is paused now)
      ∙ ap (λ (k : Owned). record k { in_use = x.in_use }) both)

  x_sound : IsEndSound rs (map (λ z. z.name) y.queues) x
  x_sound =
      end_regions regions rs (map (λ z. z.name) y.queues)
      (λ domain key at' k right h. like_local regions rs domain key at' k right (put_like remote_key r.request.shape.rkey r.request.shape.remote new regions) ∙ h)
      x (o_sound w m o l n d a.stands a.live a.linked req)

  respond : IsRespond w m (atom m q) o l r' (there_with c rs o.name e' y.queues) (with_parts y rs o.name x y.queues) x (suc g.acted) 0 answers g.offers g.dry
  respond =
      let s = g_sound w m o l number bytes d a is paused now in
      let within : g.acted < length g.posted = inside w m o l number bytes d a is paused now in
      lands w m o l n d a.stands a.live a.linked req m1 (atom m q) r' (suc g.acted) 0 answers g.offers g.dry rs y.queues e' x first second numbers_same keys_same
      (put_like remote_key r.request.shape.rkey r.request.shape.remote new regions)
      (put_whole remote_key r.request.shape.rkey r.request.shape.remote new regions (a.stands.sound o.context).whole)
      (put_said remote_key r.request.shape.rkey r.request.shape.remote new regions (word_said (changed_word r old)) (a.stands.sound o.context).bytes)
      refl (name_there w m o l n d a.stands a.live a.linked req) refl owned_after refl x_sound
      (end_moved_sound _ _ g (suc g.acted) 0 answers g.offers g.dry (connected_now w m o l number bytes d a is paused now) (acted_sound g (OldValue old) g.offers within answered atomic (offers_acted g answers g.offers s.offers) s) (q_sound w m o l n d a.stands a.live a.linked req))
      (acts_advance (asking m o) (OldValue old) g.offers (link_of w q).sender.top r' mtu_one within answered (omega (arith, same_due g, due_now w m o l number bytes d a is paused now, next))
      (omega (arith, next, piece_top w m o l number bytes d a is paused now not_read)) (λ f h. h) req.back.in_pieces.offers req.back.in_pieces (λ h. absurd (cc (not_read, h))) old_small expected_now kept_now)
      (subst (IsProgress (moved_on (asking m o) (suc g.acted) 0 answers g.offers g.dry) x.domain regions) (sym (progress_same ∙ idle)) refl)

  -- ---- its answer

  towards : IsTowards (executed l d) (side_of w q) (requests_of g')
  unfolding executed words.with_receiver
  towards = record { connected = req.towards.connected; number = req.towards.number; said = req.towards.said; start = req.towards.start }

  says : IsOld (requests_of g') n (Some old)
  says =
      let request : request_of g.posted g.mtu n ≡ g.acted = request_now w m o l number bytes d a is paused now in
      record {
        value = old;
        says = refl;
        first = n_first ∙ ap (first_number g.posted g.mtu) (sym request);
        answer = ap (slice_get answers) (request ∙ sym answered) ∙ got_last g.answers (OldValue old);
      }

  answer : IsAnswer (side_of w q) (side_now (side_of w o) (got l r')) (requests_of g') (requests_of x) (old_answer (executed l d) n old)
  answer = old_is_answer (executed l d) (side_of w q) (side_now (side_of w o) (got l r')) (requests_of g') (requests_of x) n old towards old_small says

  -- ---- the whole

  keeps_is : keeps (executed l d) n old ≡ got l r'
  unfolding executed words.with_receiver
  keeps_is = refl

  abbrev stepped : words.EndStep
  stepped = record { context = there_with c rs o.name e' y.queues; took = took.Old; sent = old_answer (executed l d) n old ∷ [] }

  done : atomic_done c e (executed l d) d region n (header_of r) old ≡ stepped
  unfolding atomic_done
  done =
      let queues : c.queues ≡ y.queues = (same_here w m o l n d a.stands a.live a.linked req).queues in
      (λ i. record { context = words.linked (written c region.keys.local (r.request.shape.remote - region.base) (word_bytes (packet.value old i))) e (keeps_is i); took = took.Old; sent = old_answer (executed l d) n old ∷ [] })
      ∙ ((λ i. record { context = words.linked (memory i) e (got l r'); took = took.Old; sent = old_answer (executed l d) n old ∷ [] })
      ∙ (ap (λ k. record { context = k; took = took.Old; sent = old_answer (executed l d) n old ∷ [] }) (linked_over c rs o.name e e' (got l r') (name_there w m o l n d a.stands a.live a.linked req) refl)
      ∙ ap (λ k. record { context = there_with c rs o.name e' k; took = took.Old; sent = old_answer (executed l d) n old ∷ [] }) queues))

  step : takes c e l d ≡ stepped
  step =
      step_now w m o l number bytes d a is paused now
      ∙ (checks.expected_is w m o l number bytes d a is paused now
      ∙ (expected_atomic c e l r d n region packet (checks.invalid_is w m o l number bytes d a is paused now ∙ tests.1) is_target
      ∙ (ap (atomic_done c e (executed l d) d region n (header_of r)) same_word ∙ done)))

  one : {A : Type 0} (P : A → Type 0) (z : A) → P z → All P (z ∷ [])
  one P z h = All-cons P z [] h (All-nil P)

  stands_now : Stands (ran w (ended_step (home w o.context) stepped)).world (atom m q)
  stands_now =
      responds w m (atom m q) o l n d r' (there_with c rs o.name e' y.queues) (with_parts y rs o.name x y.queues) x (suc g.acted) 0 answers g.offers g.dry a.stands a.live a.alive req respond took.Old (old_answer (executed l d) n old ∷ [])
      (one (IsAnswer (side_of w q) (side_now (side_of w o) (got l r')) (requests_of g') (requests_of x)) (old_answer (executed l d) n old) answer)

  pub atom_taken : Takes w m o l number d
  atom_taken =
      takes_so w m o l number d n (steps.Atom q ∷ []) stepped (request_at_end w m o l number bytes d a is).1 req.link is tt (turn, tt)
      (sym (carries_now w m o l number bytes d a is paused now ∙ atom_steps m q (length d.payload) (no_run m q (length d.payload) atomic) turn)) step stands_now
