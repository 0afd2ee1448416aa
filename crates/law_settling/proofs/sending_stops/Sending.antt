-- An end sends one piece, where nothing was pending.
use Rattle.std.proofs.Common.{arith, ◌≡◌, ◌≢◌, ◌≤◌, ◌<◌, ◌+◌, ◌-◌, ◌^◌, ℕ, suc, List, [], ◌∷◌, ◌++◌, length, get_or, true, false, Bool, refl, sym, ap, ◌∙◌, subst}
use Rattle.std.specs.Prelude.{Some, None, slice_get, not, nat_le, ◌&&◌, if◌then◌else◌}
use Rattle.std.proofs.lemmas.Bool.Decides.{nat_tests, leb_tells}
use Rattle.std.proofs.lemmas.List.{length-append}
use Rattle.rdma_types.specs.declared.answers.Answer.TheVariants as answers
use Rattle.rdma_types.specs.declared.names.Name.{Name}
use Rattle.rdma_types.specs.declared.names.ObjName.{ObjName}
use Rattle.rdma_types.specs.Kinds.{is_read, size_of}
use Rattle.rdma_types.specs.Limits.{is_mtu, most_bytes, most_flights, number_limit}
use Rattle.rdma_types.specs.Lists.{store_named}
use Rattle.rdma_types.specs.Objects.{no_posted}
use Rattle.rdma_types.specs.Spans.{Piece, end_number, span_of}
use Rattle.protocol.specs.declared.events.Event.TheVariants as events
use Rattle.protocol.specs.declared.events.WorldEvent.{WorldEvent}
use Rattle.protocol.specs.declared.events.WorldEvent.TheVariants as world_events
use Rattle.protocol.specs.Fabric.{first_of, is_kept, kept_flight, pending, pending_from, pending_numbers}
use Rattle.protocol.specs.Numbers.{wire_number}
use Rattle.protocol.specs.Segments.{packet_of_piece}
use Rattle.protocol.specs.State.{World, Device, Context, End, Link, Flight, context_at, end_at}
use Rattle.protocol.specs.Wire.{Packet, packet_of, wire_of}
use Rattle.protocol.specs.EndWords as words
use Rattle.protocol.specs.EndWords.{linked, to_partner, with_link, with_sender}
use Rattle.protocol.specs.Responder.{span_of_packet}
use Rattle.protocol.specs.Requester.{Sends, transmission, transmitted, past, end_of_queue}
use Rattle.protocol.specs.DeviceStep as device
use Rattle.protocol.specs.DeviceStep.{gives}
use Rattle.protocol.specs.WorldStep.{world_step, home, live_context, ran}
use Rattle.protocol.specs.Settle.{transmit}
use Rattle.packetless_machine.specs.Machine as machine
use Rattle.packetless_machine.specs.Machine.{Machine}
use Rattle.packetless_machine.specs.Legal.{after}
use Rattle.packetless_machine.specs.Numbers.{oldest}
use Rattle.law_simulation.specs.Joined.{IsSayable}
use Rattle.law_simulation.specs.Law.{AlwaysFollows, Follows}
use Rattle.law_simulation.specs.Stands.{Stands}
use Rattle.law_simulation.specs.Views.{requests_of}
use Rattle.law_simulation.proofs.relation.PostedNet.{requests_sound}
use Rattle.law_simulation.proofs.relation.Worlds.{holds_it, home_found, home_holds, shapes_of}
use Rattle.law_simulation.proofs.sending.GoEnding.{queue_ends}
use Rattle.law_simulation.proofs.sending.GoLive.{LiveEnd, connected, ended_here, fenced_here, joined_here, link_is, mtu_is, ordered_here, sends_here, sound_here, untold_here}
use Rattle.law_simulation.proofs.sending.GoNumbers.{end_near, mtu_small}
use Rattle.law_simulation.proofs.sending.GoSent.{peer_said}
use Rattle.law_simulation.proofs.sending.GoTransmit.{IsSending, piece_posted, sends_is}
use Rattle.law_simulation.proofs.sending.GoWritten.{fits_piece, reads_back, wire_number_bits}
use Rattle.law_settling.proofs.draining.Arrivals.{ran_sent}
use Rattle.law_settling.specs.Weights.{TakingLightens}
use Rattle.law_settling.proofs.bound.Lives.{lives, at_end, context_in, IsThere, context_name, name_is}
use Rattle.law_settling.proofs.bound.Delivering.{live_end_there, ran_stored}
use Rattle.law_settling.proofs.bound.Turns.{live_end, transmit_turns}
use Rattle.law_settling.proofs.sending_stops.Responders.{HasParts}
use Rattle.law_settling.proofs.sending_stops.Packets.{IsFoundAt, found_at, parts, past_is}
use Rattle.law_settling.proofs.sending_stops.Places.{IsAlike, alike_on, alike_same, context_else, end_else, end_now}
use Rattle.law_settling.proofs.sending_stops.Arrivals.{ran_shapes, shape_kept}
use Rattle.law_settling.proofs.sending_stops.Transmitting.{transmit_is}

-- ---- the one datagram that is pending

one_more : (count k : ℕ) → k ≤ count → is_kept (suc count) k ≡ true → is_kept count k ≡ true
one_more count k most h = grind (arith, nat_tests, leb_tells (suc (suc count)) (k + most_flights), leb_tells (suc count) (k + most_flights), leb_tells 1 k, leb_tells k count, leb_tells k (suc count), h)

both_true : (a b : Bool) → a ≡ true → b ≡ true → (a && b) ≡ true
both_true a b h k = rw (h, k) refl

none_later : (count k : ℕ) (fs : List Flight) → k + length fs ≤ suc count → pending_from count k fs ≡ [] → pending_from (suc count) k fs ≡ []
unfolding pending_from
none_later count k [] most h = refl
none_later count k (f ∷ fs) most h = by_test (is_kept (suc count) k) (not f.lost && not f.taken) refl refl (none_later count (k + 1) fs (omega (arith, most)) (rest_none (is_kept count k && (not f.lost && not f.taken)) h).1)
  where
    rest_none : (b : Bool) → (if b then k ∷ pending_from count (k + 1) fs else pending_from count (k + 1) fs) ≡ [] → (b ≡ false) × (pending_from count (k + 1) fs ≡ [])
    rest_none true t = absurd (cc)
    rest_none false t = (refl, t)

    by_test : (b c : Bool) → is_kept (suc count) k ≡ b → (not f.lost && not f.taken) ≡ c → pending_from (suc count) (k + 1) fs ≡ [] → (if b && c then k ∷ pending_from (suc count) (k + 1) fs else pending_from (suc count) (k + 1) fs) ≡ []
    by_test true true t u later = absurd (cc ((rest_none (is_kept count k && (not f.lost && not f.taken)) h).0, both_true (is_kept count k) (not f.lost && not f.taken) (one_more count k (omega (arith, most)) t) u))
    by_test true false t u later = later
    by_test false c t u later = later

pending_append : (count k : ℕ) (xs ys : List Flight) → pending_from count k (xs ++ ys) ≡ pending_from count k xs ++ pending_from count (k + length xs) ys
unfolding pending_from
pending_append count k [] ys = let e : k ≡ k + 0 = omega arith in ap (λ n. pending_from count n ys) e
pending_append count k (x ∷ xs) ys = by_test (is_kept count k && (not x.lost && not x.taken)) (pending_append count (k + 1) xs ys ∙ ap (λ n. pending_from count (k + 1) xs ++ pending_from count n ys) (let e : k + 1 + length xs ≡ k + suc (length xs) = omega arith in e))
  where
    by_test : (b : Bool) → pending_from count (k + 1) (xs ++ ys) ≡ pending_from count (k + 1) xs ++ pending_from count (k + suc (length xs)) ys → (if b then k ∷ pending_from count (k + 1) (xs ++ ys) else pending_from count (k + 1) (xs ++ ys)) ≡ (if b then k ∷ pending_from count (k + 1) xs else pending_from count (k + 1) xs) ++ pending_from count (k + suc (length xs)) ys
    by_test true h = ap (λ ns. k ∷ ns) h
    by_test false h = h

none_of : (ks : List ℕ) → first_of ks ≡ None → ks ≡ []
none_of [] h = refl
none_of (k ∷ ks) h = absurd (cc)

last_kept : (n : ℕ) → is_kept (n + 1) (n + 1) ≡ true
last_kept n = grind (arith, nat_tests, leb_tells 1 (n + 1), leb_tells (n + 1) (n + 1), leb_tells (suc (n + 1)) (n + 1 + most_flights))

-- where nothing was pending, what is sent is all that is
pub one_pending : (sent : List Flight) (f : Flight) → pending sent ≡ None → f.lost ≡ false → f.taken ≡ false → pending_numbers (sent ++ f ∷ []) ≡ (length sent + 1) ∷ []
unfolding pending pending_from
one_pending sent f calm lost taken =
    let count : length (sent ++ f ∷ []) ≡ length sent + 1 = length-append sent (f ∷ []) in
    let more : suc (length sent) ≡ length sent + 1 = omega arith in
    let before : pending_from (length sent + 1) 1 sent ≡ [] = subst (λ n. pending_from n 1 sent ≡ []) more (none_later (length sent) 1 sent (omega arith) (none_of (pending_numbers sent) calm)) in
    let place : 1 + length sent ≡ length sent + 1 = omega arith in
    ap (λ n. pending_from n 1 (sent ++ f ∷ [])) count
    ∙ (pending_append (length sent + 1) 1 sent (f ∷ [])
    ∙ (ap (λ ks. ks ++ pending_from (length sent + 1) (1 + length sent) (f ∷ [])) before
    ∙ (ap (λ n. pending_from (length sent + 1) n (f ∷ [])) place
    ∙ ap (λ b. if b then (length sent + 1) ∷ [] else []) (both_true (is_kept (length sent + 1) (length sent + 1)) (not f.lost && not f.taken) (last_kept (length sent)) (both_true (not f.lost) (not f.taken) (ap not lost) (ap not taken))))))

pub get_last : {A : Type 0} (xs : List A) (x : A) → slice_get (xs ++ x ∷ []) (length xs) ≡ Some x
get_last [] x = refl
get_last (y ∷ xs) x = get_last xs x

pub last_there : (sent : List Flight) (f : Flight) → kept_flight (sent ++ f ∷ []) (length sent + 1) ≡ Some f
unfolding kept_flight
last_there sent f =
    let count : length (sent ++ f ∷ []) ≡ length sent + 1 = length-append sent (f ∷ []) in
    let place : length sent + 1 - 1 ≡ length sent = omega arith in
    ap (λ b. if b then slice_get (sent ++ f ∷ []) (length sent + 1 - 1) else None) (ap (λ n. is_kept n (length sent + 1)) count ∙ last_kept (length sent))
    ∙ (ap (slice_get (sent ++ f ∷ [])) place ∙ get_last sent f)

-- ---- the transmission

module _ (lightens : TakingLightens) (follows : (e : WorldEvent) → AlwaysFollows e) (w : World) (m : Machine) (o : ObjName) (l : Link) (s : Stands w m) (at : (at_end w o).link ≡ Some l) (x : Piece) (row : transmission l ≡ Sends x) where
  h : LiveEnd w m o l
  h = live_end w m o l s at

  abbrev d : Device
  d = home w o.context

  abbrev c : Context
  c = context_at d o.context

  abbrev e : End
  e = end_at c o.name

  abbrev pub packet : Packet
  packet = packet_of_piece x.posted l.terms.mtu x.k l.peer (wire_number l.terms.own_start l.sender.next)

  abbrev pub flight : Flight
  flight = record { from = d.address; to = l.moving.partner; number = Some l.sender.next; bytes = wire_of packet; lost = false; taken = false }

  abbrev pub after_it : World
  after_it = (world_step w (transmit o)).world

  sending : IsSending l x
  sending = sends_is l x row

  there : IsThere w o c e l
  unfolding live_context h
  there = live_end_there w m o l (live_end w m o l s at)

  c_name : c.name ≡ o.context
  c_name = context_name w o c e l there

  e_name : e.name ≡ o.name
  e_name = name_is w o c e l there

  abbrev x1 : Context
  x1 = linked c e (transmitted l x)

  x1_name : x1.name ≡ o.context
  unfolding words.with_end
  x1_name = c_name

  x1_ends : x1.ends ≡ store_named (λ z. z.name) o.name (with_link e (transmitted l x)) c.ends
  unfolding words.with_end with_link
  x1_ends = ap (λ n. store_named (λ z. z.name) n (with_link e (transmitted l x)) c.ends) e_name

  step_is : after_it ≡ (ran w (device.sends_piece d c e l x)).world
  unfolding h
  step_is = ap (λ z. z.world) (transmit_is w m o l (live_end w m o l s at)) ∙ ap (λ t. (ran w (device.sends_by d c e l t)).world) row

  stored : lives after_it ≡ store_named (λ y. y.name) o.context x1 (lives w)
  unfolding device.sends_piece h
  stored = ap lives step_is ∙ ran_stored w m o.context x1 (answers.Sent 0) (to_partner l (Some l.sender.next) packet ∷ []) s (live_end w m o l s at).live x1_name

  shapes : shapes_of after_it ≡ shapes_of w
  unfolding device.sends_piece h
  shapes =
      let live = (live_end w m o l s at).live in
      ap shapes_of step_is
      ∙ ran_shapes w m (holds_it o.context) d (device.with_context d x1) (answers.Sent 0) (to_partner l (Some l.sender.next) packet ∷ []) s (home_found w o.context live) (shape_kept d o.context x1 x1_name (home_holds w o.context live))

  pub sent_now : after_it.sent ≡ w.sent ++ flight ∷ []
  unfolding device.sends_piece device.with_context
  sent_now = ap (λ z. z.sent) step_is ∙ ran_sent w (device.sends_piece d c e l x)

  f : Follows w m (world_events.At (events.Transmit o))
  f = follows (world_events.At (events.Transmit o)) w m tt s

  pub machine_now : Machine
  unfolding f
  machine_now = after m f.steps

  pub stands_now : Stands after_it machine_now
  unfolding f machine_now
  stands_now = f.stands

  same_link : (a b : Link) → Some a ≡ Some b → a ≡ b
  same_link a b t = cc

  pub alike_now : IsAlike w after_it
  alike_now =
      alike_on (λ n. l.moving.own) (Unit {0}) w w after_it (alike_same w)
      (transmit_turns (λ n. l.moving.own) w m o s (λ k t. ap (λ z. z.moving.own) (same_link k l (sym t ∙ at)))).goes
      shapes

  pub link_now : (at_end after_it o).link ≡ Some (transmitted l x)
  unfolding with_link
  link_now = ap (λ z. z.link) (end_now w after_it o c there.context x1 stored x1_name (with_link e (transmitted l x)) x1_ends e_name)

  pub other_now : (k : ObjName) → k ≢ o → at_end after_it k ≡ at_end w k
  unfolding with_link
  other_now k ne = end_else w after_it o c there.context x1 stored x1_name (with_link e (transmitted l x)) x1_ends e_name k ne

  pub context_same : (k : Name) → k ≢ o.context → context_in (lives after_it) k ≡ context_in (lives w) k
  context_same k ne = context_else w after_it o c there.context x1 stored x1_name k ne

  -- ---- what is sent is read back

  q_mtu : is_mtu (machine.end_of m o).mtu ≡ true
  unfolding h
  q_mtu = let j = joined_here w m o l s (live_end w m o l s at) in subst (λ k. is_mtu k ≡ true) j.mtu j.terms.mtu

  posted_there : (i : ℕ) × (i < length (machine.end_of m o).posted) × (get_or (machine.end_of m o).posted i no_posted ≡ x.posted)
  posted_there =
      let hh : LiveEnd w m o l = live_end w m o l s at in
      let q = requests_of (machine.end_of m o) in
      let sound = requests_sound (machine.end_of m o) (sound_here w m o l s hh).sound in
      piece_posted l (requests_of (machine.end_of m o)) x sound q_mtu (mtu_is w m o l s hh) (untold_here w m o l s hh) (joined_here w m o l s hh).in_pieces.telling (sends_here w m o l s hh sending.alive) (ordered_here w m o l s hh) (fenced_here w m o l s hh sending.alive) (end_near (requests_of (machine.end_of m o)) sound q_mtu (ended_here w m o l s hh ∙ sending.alive) (sound_here w m o l s hh).depth) sending

  said : IsSayable x.posted
  said = subst IsSayable posted_there.2 ((joined_here w m o l s (live_end w m o l s at)).in_pieces.sayable posted_there.0 no_posted posted_there.1)

  short : size_of x.posted ≤ most_bytes
  short = subst (λ r. size_of r ≤ most_bytes) posted_there.2 ((sound_here w m o l s (live_end w m o l s at)).sound.sizes posted_there.0 posted_there.1)

  pub peer_small : l.peer < 2 ^ 24
  peer_small =
      let hh : LiveEnd w m o l = live_end w m o l s at in
      subst (λ (z : Link). z.peer < 2 ^ 24) (link_is w m o l s hh) (peer_said w m o s (connected w m o l s hh))

  pub read_now : packet_of flight.bytes ≡ Some packet
  read_now =
      let hh : LiveEnd w m o l = live_end w m o l s at in
      reads_back packet (fits_piece x.posted l.terms.mtu x.k l.peer (wire_number l.terms.own_start l.sender.next) said short (omega (arith, mtu_is w m o l s hh, mtu_small (machine.end_of m o).mtu q_mtu)) peer_small (wire_number_bits l.terms.own_start l.sender.next))

  -- ---- its numbers

  pub first_una : l.sender.first ≤ l.sender.una
  unfolding oldest
  first_una = let t = sends_here w m o l s (live_end w m o l s at) sending.alive in omega (arith, t.first, t.una)

  pub una_next : l.sender.una ≤ l.sender.next
  una_next = (ordered_here w m o l s (live_end w m o l s at)).una_next

  pub found_now : IsFoundAt l.sender.untold l.terms.mtu (l.sender.next - l.sender.first) x
  found_now = found_at l.sender.untold l.terms.mtu (l.sender.next - l.sender.first) x sending.found

  abbrev pub past_it : ℕ
  past_it = past l.terms l.sender.next x

  low : x.k ≤ l.sender.next
  low = omega (arith, found_now.low)

  pub past_low : l.sender.next < past_it
  past_low = by_kind (is_read x.posted.request.shape.kind)
    where
      by_kind : (b : Bool) → l.sender.next < (if b then (l.sender.next - x.k) + span_of x.posted l.terms.mtu else l.sender.next + 1)
      by_kind true = omega (arith, found_now.low, found_now.within)
      by_kind false = omega arith

  pub past_end : past_it ≤ end_of_queue l.terms l.sender
  unfolding end_of_queue
  past_end = by_kind (is_read x.posted.request.shape.kind)
    where
      by_kind : (b : Bool) → (if b then (l.sender.next - x.k) + span_of x.posted l.terms.mtu else l.sender.next + 1) ≤ l.sender.first + end_number l.sender.untold l.terms.mtu
      by_kind true = omega (arith, found_now.low, found_now.within, found_now.end, first_una, una_next)
      by_kind false = omega (arith, found_now.low, found_now.within, found_now.end, first_una, una_next)

  l_mtu : is_mtu l.terms.mtu ≡ true
  l_mtu = subst (λ k. is_mtu k ≡ true) (sym (mtu_is w m o l s (live_end w m o l s at))) q_mtu

  -- the numbers that the packet takes
  pub numbers_now : l.sender.next + span_of_packet packet l.terms.mtu packet.reth ≡ past_it
  numbers_now = past_is x.posted l.terms.mtu x.k l.peer (wire_number l.terms.own_start l.sender.next) l.sender.next l_mtu found_now.within low

  pub within_limit : nat_le number_limit (l.sender.next + span_of_packet packet l.terms.mtu packet.reth) ≡ false
  within_limit =
      let hh : LiveEnd w m o l = live_end w m o l s at in
      let ends : end_of_queue l.terms l.sender ≡ end_number (machine.end_of m o).posted (machine.end_of m o).mtu = queue_ends l l.sender (machine.end_of m o) (mtu_is w m o l s hh) (untold_here w m o l s hh) (sends_here w m o l s hh sending.alive).first (sound_here w m o l s hh).sound.told_posted in
      let below : l.sender.next + span_of_packet packet l.terms.mtu packet.reth < number_limit = omega (arith, numbers_now, past_end, ends, (ordered_here w m o l s hh).limit) in
      grind (arith, nat_tests, leb_tells number_limit (l.sender.next + span_of_packet packet l.terms.mtu packet.reth), below)

  pub whole_now : HasParts packet
  whole_now = parts x.posted l.terms.mtu x.k l.peer (wire_number l.terms.own_start l.sender.next)
