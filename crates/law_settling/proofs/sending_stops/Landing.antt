-- What the delivery of a request that was just sent does at the end that it is for.
use Rattle.std.proofs.Common.{arith, ◌≡◌, ◌≤◌, ◌<◌, ◌+◌, ◌-◌, ◌⊎◌, ℕ, suc, [], ◌∷◌, length, true, false, Bool, refl, sym, ap, ◌∙◌, subst, inl, inr}
use Rattle.std.specs.Prelude.{Contains, Option, Some, None, slice_get, option_map, is_some, nat_le, nat_lt, ◌==◌, ◌&&◌, if◌then◌else◌}
use Rattle.std.proofs.lemmas.Bool.Decides.{nat_tests, leb_tells, eqb_tells}
use Rattle.std.proofs.lemmas.List.{length-append}
use Rattle.rdma_types.specs.declared.answers.DropReason.TheVariants as why
use Rattle.rdma_types.specs.declared.names.ObjName.{ObjName}
use Rattle.rdma_types.specs.declared.requests.Address.{Address}
use Rattle.rdma_types.specs.Lists.{named, store_named}
use Rattle.rdma_types.specs.Spans.{Piece}
use Rattle.protocol.specs.declared.events.WorldEvent.{WorldEvent}
use Rattle.protocol.specs.declared.events.WorldEvent.TheVariants as world_events
use Rattle.protocol.specs.Fabric.{is_kept, is_late, changed_at, kept_flight, marked_taken, took}
use Rattle.protocol.specs.Moves.{control_of}
use Rattle.protocol.specs.Numbers.{unwrap_near, wire_number}
use Rattle.protocol.specs.State.{World, Context, End, Link, Flight, no_context, no_end}
use Rattle.protocol.specs.Wire.{Packet, packet_of, is_request}
use Rattle.protocol.specs.EndStep.{takes}
use Rattle.protocol.specs.EndWords.{is_paused, silent, with_sender}
use Rattle.rdma_types.specs.Limits.{number_limit}
use Rattle.protocol.specs.Responder.{span_of_packet}
use Rattle.protocol.specs.Requester.{Sends, transmission, transmitted}
use Rattle.protocol.specs.WorldStep.{device_with, live_context, same_address, with_taken, world_step}
use Rattle.packetless_machine.specs.Machine.{Machine}
use Rattle.law_simulation.specs.Facts.{PacketFact}
use Rattle.law_simulation.specs.Law.{AlwaysFollows}
use Rattle.law_simulation.specs.Packets.{class_of, IsRequest}
use Rattle.law_simulation.specs.Stands.{Stands}
use Rattle.law_simulation.specs.Views.{end_of, name_of, net_of, peer, place_of}
use Rattle.law_simulation.proofs.relation.Worlds.{shapes_of}
use Rattle.law_simulation.specs.Delivered.{Arrives}
use Rattle.law_simulation.proofs.delivery.Arriving.{read_of, stored_again, taken_stands}
use Rattle.law_simulation.proofs.delivery.Found.{linked_there, lives_found}
use Rattle.law_simulation.proofs.sending.GoLive.{LiveEnd, connected, link_is, link_now}
use Rattle.law_simulation.proofs.sending.GoSent.{peer_said}
use Rattle.law_simulation.proofs.sending.GoTransmit.{sends_is}
use Rattle.law_simulation.proofs.sending.GoWritten.{class_piece, dest_piece}
use Rattle.law_simulation.proofs.requests.Pieces.{no_control}
use Rattle.law_simulation.proofs.requests.Requests.{request_at_end}
use Rattle.law_settling.proofs.draining.Arrivals.{kept_there}
use Rattle.law_settling.proofs.draining.Pending.{changed_same}
use Rattle.law_settling.proofs.draining.Replies.{IsStop}
use Rattle.law_settling.specs.Weights.{TakingLightens}
use Rattle.law_settling.proofs.bound.Lives.{lives, at_end, end_is, name_is}
use Rattle.law_settling.proofs.bound.Turns.{live_end}
use Rattle.law_settling.proofs.sending_stops.Arrivals.{IsPast, IsQuietStep, Lands, Missed, first_either}
use Rattle.law_settling.proofs.sending_stops.Pairs.{expected_near, p_number, terms_exchanged}
use Rattle.law_settling.proofs.sending_stops.Packets.{asks}
use Rattle.law_settling.proofs.sending_stops.Places.{IsAlike, number_is, one_named}
use Rattle.law_settling.proofs.sending_stops.Responders.{HasParts, Outcome, taken_outcome}
use Rattle.law_settling.proofs.sending_stops.Sending.{after_it, alike_now, flight, last_there, link_now as sent_link, machine_now, packet, read_now, sent_now, stands_now, una_next, whole_now, within_limit}

same_number : (n : ℕ) → (n == n) ≡ true
same_number n = elim (eqb_tells n n) [ inl t ↦ t.0 | inr t ↦ absurd (t.1 refl) ]

same_place : (a : Address) → same_address a a ≡ true
same_place a = both (a.ip == a.ip) (a.port == a.port) (same_number a.ip) (same_number a.port)
  where
    both : (x y : Bool) → x ≡ true → y ≡ true → (x && y) ≡ true
    both x y h k = rw (h, k) refl

-- an end in Error, or a Paused one, does nothing with a request
ended_nothing : (c : Context) (e : End) (l : Link) (d : Packet) → l.ended ≡ true → takes c e l d ≡ silent c why.Ended
unfolding takes
ended_nothing c e l d h = rw h refl

paused_nothing : (c : Context) (e : End) (l : Link) (d : Packet) → l.ended ≡ false → control_of d ≡ None → is_request d.opcode ≡ true → is_paused l.moving.phase ≡ true → takes c e l d ≡ silent c why.Paused
unfolding takes
paused_nothing c e l d alive none asked paused = rw (alive, none, asked, paused) refl

some_link : (a b : Link) → Some a ≡ Some b → a ≡ b
some_link a b h = cc

some_packet : (a b : Packet) → Some a ≡ Some b → a ≡ b
some_packet a b h = cc

not_late : (n x : ℕ) → nat_lt (n + 4194304) x ≡ true → x ≤ n + 1048576 → ⊥
not_late n x h most = let less : n + 4194304 < x = grind (arith, nat_tests, leb_tells (suc (n + 4194304)) x, h) in omega (arith, less, most)

late_then : (b : Bool) (number : Option ℕ) (x y : ℕ) → b ≡ true → is_late number (if b then x else y) ≡ true → is_late number x ≡ true
late_then true number x y t h = h
late_then false number x y t h = absurd (cc)

module _ (lightens : TakingLightens) (follows : (e : WorldEvent) → AlwaysFollows e) (w : World) (m : Machine) (o : ObjName) (l : Link) (s : Stands w m) (at : (at_end w o).link ≡ Some l) (x : Piece) (row : transmission l ≡ Sends x) where
  abbrev pub w1 : World
  w1 = after_it lightens follows w m o l s at x row

  abbrev m1 : Machine
  m1 = machine_now lightens follows w m o l s at x row

  abbrev s1 : Stands w1 m1
  s1 = stands_now lightens follows w m o l s at x row

  abbrev pub l1 : Link
  l1 = transmitted l x

  abbrev pub k : ℕ
  k = length w.sent + 1

  abbrev f : Flight
  f = flight lightens follows w m o l s at x row

  abbrev pub pk : Packet
  pk = packet lightens follows w m o l s at x row

  abbrev alike : IsAlike w w1
  alike = alike_now lightens follows w m o l s at x row

  kept_k : kept_flight w1.sent k ≡ Some f
  kept_k = subst (λ fs. kept_flight fs k ≡ Some f) (sym (sent_now lightens follows w m o l s at x row)) (last_there w.sent f)

  -- the end that the request is for
  abbrev pub p : ObjName
  p = name_of m l.peer

  abbrev pub w2 : World
  w2 = (world_step w1 (world_events.Deliver k)).world

  is_p : (q : ObjName) (lq : Link) → (at_end w1 q).link ≡ Some lq → (at_end w1 q).number ≡ l.peer → q ≡ p
  is_p q lq linked' number =
      let b = alike.before q lq linked' in
      sym (ap (name_of m) (sym number ∙ alike.number q) ∙ one_named w m q b.0 s b.1)

  dest : pk.dest ≡ l.peer
  dest = dest_piece x.posted l.terms.mtu x.k l.peer (wire_number l.terms.own_start l.sender.next)

  asked : is_request pk.opcode ≡ true
  asked = asks x.posted l.terms.mtu x.k l.peer (wire_number l.terms.own_start l.sender.next)

  none : control_of pk ≡ None
  none = no_control x.posted l.terms.mtu x.k l.peer (wire_number l.terms.own_start l.sender.next)

  pub h1 : LiveEnd w1 m1 o l1
  h1 = live_end w1 m1 o l1 s1 (sent_link lightens follows w m o l s at x row)

  pub alive1 : l1.ended ≡ false
  unfolding transmitted with_sender
  alive1 = (sends_is l x row).alive

  pub peer1 : l1.peer ≡ l.peer
  unfolding transmitted with_sender
  peer1 = refl

  pub una1 : l1.sender.una ≡ l.sender.una
  unfolding transmitted with_sender
  una1 = refl

  -- where it lives
  module _ (lp : Link) (atp : (at_end w1 p).link ≡ Some lp) where
    pub number_p : (at_end w1 p).number ≡ l.peer
    number_p =
        let b = alike.before p lp atp in
        alike.number p ∙ (sym (number_is w m p b.0 s b.1) ∙ p_number w m o p l b.0 s (live_end w m o l s at) (live_end w m p b.0 s b.1) refl)

    pub hp : LiveEnd w1 m1 p lp
    hp = live_end w1 m1 p lp s1 atp

    pub named1 : name_of m1 l1.peer ≡ p
    named1 = ap (name_of m1) (peer1 ∙ sym number_p) ∙ one_named w1 m1 p lp s1 atp

    near : lp.ended ≡ false → lp.receiver.expected ≤ l.sender.next + 1048576
    near alive' = omega (arith, expected_near w1 m1 o p l1 lp s1 h1 hp named1 alive1 alive', una1, una_next lightens follows w m o l s at x row)

    -- nothing reaches it where it is in Error alone
    missed_ended : place_of w1 p.context ≡ Some l.moving.partner → Missed w1 f pk → lp.ended ≡ true
    unfolding live_context
    missed_ended reach missed =
        let there = linked_there w1 p hp.live (ap is_some (link_now w1 m1 p lp s1 hp)) in
        let number : (end_of w1 p).number ≡ pk.dest = ap (λ e. e.number) (sym there.1) ∙ (ap (λ e. e.number) (end_is w1 p) ∙ (number_p ∙ sym dest)) in
        let found = lives_found w1 m1 p l.moving.partner f.to pk.dest s1.placed (ap is_some (link_now w1 m1 p lp s1 hp)) number reach (same_place l.moving.partner) (device_with w1 f.to) refl in
        absurd (omega (arith, found.2, ap length (missed found.0 found.1)))

    past_ended : (y : IsPast w1 m1 k f pk) → lp.ended ≡ true
    past_ended y =
        let q : ObjName = name_of m1 pk.dest in
        let q_end : at_end w1 q ≡ y.end = ap (λ c. named (λ e. e.name) no_end q.name c.ends) y.there.context ∙ y.there.end in
        let q_link : (at_end w1 q).link ≡ Some y.link = ap (λ e. e.link) q_end ∙ y.there.linked in
        let q_is : q ≡ p = is_p q y.link q_link (ap (λ e. e.number) q_end ∙ (y.number ∙ dest)) in
        let same : y.link ≡ lp = some_link y.link lp (sym q_link ∙ (ap (λ n. (at_end w1 n).link) q_is ∙ atp)) in
        by_test lp.ended refl (late_then (is_request pk.opcode) (Some l.sender.next) lp.receiver.expected lp.sender.top asked (subst (λ (z : Link). is_late (Some l.sender.next) (if is_request pk.opcode then z.receiver.expected else z.sender.top) ≡ true) same y.late))
      where
        by_test : (b : Bool) → lp.ended ≡ b → is_late (Some l.sender.next) lp.receiver.expected ≡ true → lp.ended ≡ true
        by_test true t late = t
        by_test false t late = absurd (not_late l.sender.next lp.receiver.expected late (near t))

  -- ---- what the delivery does

  -- nothing, since the end is not there, in Error, or Paused
  pub record IsDead : Type 0 where
    pub lives : lives w2 ≡ lives w1
    pub shapes : shapes_of w2 ≡ shapes_of w1
    pub fresh : (j : ℕ) (g : Flight) → length w1.sent ≤ j → slice_get w2.sent j ≡ Some g → IsStop g.bytes
    pub dead : (lp : Link) → (at_end w1 p).link ≡ Some lp → place_of w1 p.context ≡ Some l.moving.partner → (lp.ended ≡ true) ⊎ (is_paused lp.moving.phase ≡ true)

  -- the end takes it
  pub record IsTaken : Type 0 where
    pub y : Lands w1 m1 k w2
    pub name : name_of m1 y.packet.dest ≡ p
    pub packet : y.packet ≡ pk
    pub alive : y.link.ended ≡ false
    pub running : is_paused y.link.moving.phase ≡ false
    pub reach : place_of w1 p.context ≡ Some l.moving.partner
    pub linked : (at_end w1 p).link ≡ Some y.link
    pub mtu : y.link.terms.mtu ≡ l.terms.mtu
    pub outcome : Outcome y.context y.end y.link y.packet l.sender.next (takes y.context y.end y.link y.packet)

  missed_dead : IsQuietStep w1 w2 → (Missed w1 f pk ⊎ IsPast w1 m1 k f pk) → IsDead
  missed_dead quiet why' = record {
    lives = quiet.lives;
    shapes = quiet.shapes;
    fresh = quiet.fresh;
    dead = λ lp atp reach. inl (elim why' [ inl missed ↦ missed_ended lp atp reach missed | inr y ↦ past_ended lp atp y ]);
  }

  module _ (y : Lands w1 m1 k w2) (same_flight : y.flight ≡ f) (same_packet : y.packet ≡ pk) where
    abbrev q : ObjName
    q = name_of m1 y.packet.dest

    q_end : at_end w1 q ≡ y.end
    q_end = ap (λ c. named (λ e. e.name) no_end q.name c.ends) y.there.context ∙ y.there.end

    q_link : (at_end w1 q).link ≡ Some y.link
    q_link = ap (λ e. e.link) q_end ∙ y.there.linked

    q_is : q ≡ p
    q_is = is_p q y.link q_link (ap (λ e. e.number) q_end ∙ (y.number ∙ (ap (λ z. z.dest) same_packet ∙ dest)))

    p_link : (at_end w1 p).link ≡ Some y.link
    p_link = ap (λ n. (at_end w1 n).link) (sym q_is) ∙ q_link

    reach : place_of w1 p.context ≡ Some l.moving.partner
    reach = ap (λ n. place_of w1 n.context) (sym q_is) ∙ (y.reach ∙ ap (λ z. Some z.to) same_flight)

    asked' : is_request y.packet.opcode ≡ true
    asked' = ap (λ z. is_request z.opcode) same_packet ∙ asked

    none' : control_of y.packet ≡ None
    none' = ap control_of same_packet ∙ none

    -- where it changes nothing
    idle_dead : (takes y.context y.end y.link y.packet).context ≡ y.context → (takes y.context y.end y.link y.packet).sent ≡ [] → (y.link.ended ≡ true) ⊎ (is_paused y.link.moving.phase ≡ true) → IsDead
    idle_dead is silent dead = record {
      lives = y.lives ∙ (ap (λ z. store_named (λ c. c.name) q.context z (lives w1)) (is ∙ sym y.there.context) ∙ stored_again (λ c. c.name) no_context q.context (lives w1) y.there.live);
      shapes = y.shapes;
      fresh = λ j g past there. let z = y.fresh j g past there in absurd (omega (arith, (subst (λ zs. Contains zs z.0) silent z.1).1));
      dead = λ lp atp r. subst (λ (z : Link). (z.ended ≡ true) ⊎ (is_paused z.moving.phase ≡ true)) (some_link y.link lp (sym p_link ∙ atp)) dead;
    }

    -- where it takes it
    module _ (alive : y.link.ended ≡ false) (running : is_paused y.link.moving.phase ≡ false) where
      abbrev v : World
      v = with_taken w1 k

      sv : Stands v m1
      sv = taken_stands w1 m1 k s1

      -- what is marked as taken says the same
      marked_there : slice_get v.sent (k - 1) ≡ Some (marked_taken f)
      unfolding took
      marked_there =
          let count : length w1.sent ≡ k = ap length (sent_now lightens follows w m o l s at x row) ∙ length-append w.sent (f ∷ []) in
          let kept : is_kept (length w1.sent) k ≡ true = (kept_there w1.sent k f kept_k).0 in
          ap (λ b. slice_get (if b then changed_at marked_taken (k - 1) w1.sent else w1.sent) (k - 1)) kept
          ∙ (changed_same marked_taken (k - 1) w1.sent ∙ ap (option_map marked_taken) (kept_there w1.sent k f kept_k).1)

      fact_now : (d : Packet) × (packet_of f.bytes ≡ Some d) × PacketFact ((net_of v m1).side (name_of m1 d.dest)) ((net_of v m1).side (peer (net_of v m1) (name_of m1 d.dest))) ((net_of v m1).end (name_of m1 d.dest)) ((net_of v m1).end (peer (net_of v m1) (name_of m1 d.dest))) (Some l.sender.next) f.bytes d
      fact_now = read_of (net_of v m1) (Some l.sender.next) f.bytes (packet_of f.bytes) refl (sv.sent (k - 1) (marked_taken f) marked_there)

      fact_is : PacketFact ((net_of v m1).side q) ((net_of v m1).side (peer (net_of v m1) q)) ((net_of v m1).end q) ((net_of v m1).end (peer (net_of v m1) q)) (Some l.sender.next) f.bytes y.packet
      fact_is =
          let same : fact_now.0 ≡ y.packet = some_packet fact_now.0 y.packet (sym fact_now.1 ∙ (ap (λ z. packet_of z.bytes) (sym same_flight) ∙ y.read)) in
          subst (λ d. PacketFact ((net_of v m1).side (name_of m1 d.dest)) ((net_of v m1).side (peer (net_of v m1) (name_of m1 d.dest))) ((net_of v m1).end (name_of m1 d.dest)) ((net_of v m1).end (peer (net_of v m1) (name_of m1 d.dest))) (Some l.sender.next) f.bytes d) same fact_now.2

      not_late_now : is_late (Some l.sender.next) y.link.receiver.expected ≡ false
      not_late_now = by_test (is_late (Some l.sender.next) y.link.receiver.expected) refl
        where
          by_test : (b : Bool) → is_late (Some l.sender.next) y.link.receiver.expected ≡ b → is_late (Some l.sender.next) y.link.receiver.expected ≡ false
          by_test false t = t
          by_test true t = absurd (not_late l.sender.next y.link.receiver.expected t (near y.link p_link alive))

      arrives : Arrives v m1 q y.link (Some l.sender.next) f.bytes y.packet
      arrives = record {
        stands = sv;
        live = y.live.live;
        there = y.live.found;
        linked = y.live.linked;
        alive = alive;
        named = refl;
        read = ap packet_of (ap (λ z. z.bytes) (sym same_flight)) ∙ y.read;
        fact = fact_is;
        fresh = ap (λ b. is_late (Some l.sender.next) (if b then y.link.receiver.expected else y.link.sender.top)) asked' ∙ not_late_now;
      }

      class_is : class_of y.packet ≡ IsRequest
      class_is = ap class_of same_packet ∙ class_piece x.posted l.terms.mtu x.k l.peer (wire_number l.terms.own_start l.sender.next)

      some_number : (a b : ℕ) → Some a ≡ Some b → a ≡ b
      some_number a b h = cc

      number_is_next : unwrap_near y.link.terms.peer_start y.packet.psn y.link.receiver.expected ≡ Some l.sender.next
      number_is_next =
          let r = request_at_end v m1 q y.link (Some l.sender.next) f.bytes y.packet arrives class_is in
          r.2.number ∙ sym r.1

      mtu_same : y.link.terms.mtu ≡ l.terms.mtu
      unfolding transmitted with_sender
      mtu_same = ap (λ z. z.mtu) (terms_exchanged w1 m1 o p l1 y.link s1 h1 (hp y.link p_link) (named1 y.link p_link))

      below : nat_le number_limit (l.sender.next + span_of_packet y.packet y.link.terms.mtu y.packet.reth) ≡ false
      below = (λ i. nat_le number_limit (l.sender.next + span_of_packet (same_packet i) (mtu_same i) (same_packet i).reth)) ∙ within_limit lightens follows w m o l s at x row

      small : y.link.peer < 16777216
      small = subst (λ (z : Link). z.peer < 16777216) (link_is w1 m1 p y.link s1 (hp y.link p_link)) (peer_said w1 m1 p s1 (connected w1 m1 p y.link s1 (hp y.link p_link)))

      there_now : (named (λ z. z.name) no_end y.end.name y.context.ends).link ≡ Some y.link
      there_now = ap (λ n. (named (λ z. z.name) no_end n y.context.ends).link) (name_is w1 q y.context y.end y.link y.there) ∙ (ap (λ e. e.link) y.there.end ∙ y.there.linked)

      taken_now : IsTaken
      taken_now = record {
        y = y;
        name = q_is;
        packet = same_packet;
        alive = alive;
        running = running;
        reach = reach;
        linked = p_link;
        mtu = mtu_same;
        outcome = taken_outcome y.context y.end y.link y.packet l.sender.next alive small there_now running none' asked' number_is_next (subst HasParts (sym same_packet) (whole_now lightens follows w m o l s at x row)) below;
      }

    lands_either : IsDead ⊎ IsTaken
    lands_either = by_ended y.link.ended refl
      where
        by_paused : (b : Bool) → y.link.ended ≡ false → is_paused y.link.moving.phase ≡ b → IsDead ⊎ IsTaken
        by_paused true alive t =
            let is = paused_nothing y.context y.end y.link y.packet alive none' asked' t in
            inl (idle_dead (ap (λ z. z.context) is) (ap (λ z. z.sent) is) (inr t))
        by_paused false alive t = inr (taken_now alive t)

        by_ended : (b : Bool) → y.link.ended ≡ b → IsDead ⊎ IsTaken
        by_ended true t =
            let is = ended_nothing y.context y.end y.link y.packet t in
            inl (idle_dead (ap (λ z. z.context) is) (ap (λ z. z.sent) is) (inl t))
        by_ended false t = by_paused (is_paused y.link.moving.phase) t refl

  pub first_delivery : IsDead ⊎ IsTaken
  first_delivery = elim (first_either lightens w1 m1 k s1 f kept_k refl pk (read_now lightens follows w m o l s at x row)) [
    | inl quiet ↦ inl (missed_dead quiet.0 quiet.1)
    | inr y ↦ lands_either y.0 y.1 y.2
  ]
