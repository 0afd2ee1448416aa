-- Each send takes from what an end may still send.
use Rattle.std.proofs.Common.{arith, ◌≡◌, ◌≤◌, ◌<◌, ◌+◌, ◌-◌, ◌⊎◌, ℕ, suc, true, false, Bool, refl, sym, ap, ◌∙◌, subst, inl, inr}
use Rattle.std.specs.Prelude.{Some, None, nat_le, if◌then◌else◌}
use Rattle.std.proofs.lemmas.Bool.Decides.{nat_tests, leb_tells}
use Rattle.rdma_types.specs.declared.names.ObjName.{ObjName}
use Rattle.rdma_types.specs.Kinds.{is_read}
use Rattle.rdma_types.specs.Lists.{named}
use Rattle.rdma_types.specs.Spans.{Piece, span_of}
use Rattle.protocol.specs.declared.events.WorldEvent.{WorldEvent}
use Rattle.protocol.specs.Fabric.{pending}
use Rattle.protocol.specs.State.{World, Link, Moving, Phase, Running, Paused, Resuming, no_end}
use Rattle.protocol.specs.EndWords.{is_paused, is_resuming, with_link, with_receiver, with_sender}
use Rattle.protocol.specs.Requester.{Sends, transmission, transmitted, end_of_queue, past}
use Rattle.protocol.specs.Responder.{span_of_packet}
use Rattle.protocol.specs.Settle.{Settling, drained}
use Rattle.rdma_types.specs.declared.requests.Terms.{Terms}
use Rattle.protocol.specs.Numbers.{wire_number}
use Rattle.protocol.specs.Segments.{packet_of_piece}
use Rattle.protocol.specs.Wire.{Packet}
use Rattle.packetless_machine.specs.Machine.{Machine}
use Rattle.law_simulation.specs.Law.{AlwaysFollows}
use Rattle.law_simulation.specs.Stands.{Stands}
use Rattle.law_simulation.specs.Views.{name_of, place_of}
use Rattle.law_simulation.proofs.relation.Worlds.{place_same}
use Rattle.law_simulation.proofs.sending.GoLive.{LiveEnd, ordered_here}
use Rattle.law_simulation.proofs.sending.GoTransmit.{sends_is}
use Rattle.law_settling.specs.Weights.{TakingLightens}
use Rattle.law_settling.proofs.bound.Lives.{lives, at_end, context_in}
use Rattle.law_settling.proofs.bound.Turns.{live_end}
use Rattle.law_settling.proofs.sending_stops.Turns.{IsDryFor, IsFurther, IsHeld, piece_with}
use Rattle.law_settling.proofs.sending_stops.Budgets.{AsksNoMore, Budget, IsBound, IsDryAt, IsInStep, IsStopped, IsStuck, Watches, dry_like, end_of, packet_with}
use Rattle.law_settling.proofs.sending_stops.Draining.{During}
use Rattle.law_settling.proofs.sending_stops.Exchanges as exchange
use Rattle.law_settling.proofs.sending_stops.Landing.{IsDead, IsTaken, first_delivery}
use Rattle.law_settling.proofs.sending_stops.Pairs.{p_number, read_past, una_expected}
use Rattle.law_settling.proofs.sending_stops.Places.{number_is, one_named}
use Rattle.law_settling.proofs.sending_stops.Responders.{Acts, Asks, IsIdle, Refuses}
use Rattle.law_settling.proofs.sending_stops.Sending.{alike_now, context_same, numbers_now, other_now, past_end, past_low, una_next}

paused_not_resuming : (f : Phase) → is_paused f ≡ true → is_resuming f ≡ false
paused_not_resuming Running h = absurd (cc)
paused_not_resuming Paused h = refl
paused_not_resuming Resuming h = absurd (cc)

some_link : (a b : Link) → Some a ≡ Some b → a ≡ b
some_link a b h = cc

some_piece : (a b : Piece) → Some a ≡ Some b → a ≡ b
some_piece a b h = cc

abbrev packet_with_of : Terms → ℕ → Piece → ℕ → Packet
packet_with_of terms peer y j = packet_of_piece y.posted terms.mtu y.k peer (wire_number terms.own_start j)

module _ (lightens : TakingLightens) (follows : (e : WorldEvent) → AlwaysFollows e) (s0 : Settling) (m : Machine) (o : ObjName) (l : Link) (s : Stands s0.world m) (at : (at_end s0.world o).link ≡ Some l) (x : Piece) (row : transmission l ≡ Sends x) (calm : pending s0.world.sent ≡ None)
    (number : ℕ) (moving : Moving) (moving_is : l.moving ≡ moving) (running : is_resuming moving.phase ≡ false) (peer_is : l.peer ≡ number) (n : ℕ) (b : IsBound o number moving (suc n) s0.world l) where
  abbrev w : World
  w = s0.world

  abbrev v1 : World
  v1 = exchange.v1 lightens follows s0 m o l s at x row calm

  abbrev v2 : World
  v2 = exchange.v2 lightens follows s0 m o l s at x row calm

  abbrev q : ObjName
  q = exchange.q lightens follows s0 m o l s at x row calm

  abbrev w3 : World
  w3 = (drained (exchange.t1 lightens follows s0 m o l s at x row calm)).world

  abbrev u : ℕ
  u = l.sender.una

  abbrev nx : ℕ
  nx = l.sender.next

  abbrev e : ℕ
  e = end_of l

  abbrev up : ℕ
  up = past l.terms l.sender.next x

  alive : l.ended ≡ false
  alive = (sends_is l x row).alive

  found : piece_with l nx ≡ Some x
  found = (sends_is l x row).found

  up_low : nx < up
  up_low = past_low lightens follows w m o l s at x row

  up_end : up ≤ e
  up_end = past_end lightens follows w m o l s at x row

  low : u ≤ nx
  low = una_next lightens follows w m o l s at x row

  -- whatever it is, it is no less than what is left to send once
  base : e ≤ suc n + nx
  base = elim b [
    | inl h ↦ absurd (omega (arith, h, up_low, up_end))
    | inr b1 ↦ elim b1 [
      | inl h ↦ h.0
      | inr b2 ↦ elim b2 [
        | inl h ↦ omega (arith, h.0, low, up_low, up_end)
        | inr b3 ↦ elim b3 [
          | inl h ↦ omega (arith, h.0, low)
          | inr h ↦ omega (arith, h, low, up_low, up_end)
        ]
      ]
    ]
  ]

  -- ---- the partner in the world before

  module _ (lp : Link) (atq : (at_end v1 q).link ≡ Some lp) (alive' : lp.ended ≡ false) (runs : is_paused lp.moving.phase ≡ false) (reach : place_of v1 q.context ≡ Some l.moving.partner) where
    end_w : at_end v1 q ≡ at_end w q
    end_w = other_now lightens follows w m o l s at x row q (exchange.not_it lightens follows s0 m o l s at x row calm)

    context_w : context_in (lives v1) q.context ≡ context_in (lives w) q.context
    context_w = context_same lightens follows w m o l s at x row q.context (exchange.apart lightens follows s0 m o l s at x row calm)

    at_w : (at_end w q).link ≡ Some lp
    at_w = ap (λ z. z.link) (sym end_w) ∙ atq

    reach_w : place_of w q.context ≡ Some moving.partner
    reach_w = sym (place_same w v1 q.context (alike_now lightens follows w m o l s at x row).shapes) ∙ (reach ∙ ap (λ z. Some z.partner) moving_is)

    hq : LiveEnd w m q lp
    hq = live_end w m q lp s at_w

    number_w : (at_end w q).number ≡ number
    number_w = sym (number_is w m q lp s at_w) ∙ (p_number w m o q l lp s (live_end w m o l s at) hq refl ∙ peer_is)

    -- what the world before says of it
    watched : (P : ObjName → Link → Type 0) → Watches o number moving w P → P q lp
    watched P h = h q lp at_w number_w alive' runs reach_w

    -- what is sent with a number before the expected one lies before it as a whole
    up_before : nx < lp.receiver.expected → up ≤ lp.receiver.expected
    up_before before = by_kind (is_read x.posted.request.shape.kind) refl
      where
        by_kind : (c : Bool) → is_read x.posted.request.shape.kind ≡ c → (if c then (nx - x.k) + span_of x.posted l.terms.mtu else nx + 1) ≤ lp.receiver.expected
        by_kind true t = read_past w m o q l lp s (live_end w m o l s at) hq refl alive alive' x row before t
        by_kind false t = omega (arith, before)

  -- ---- the worlds after

  module _ (Back : Type 0) (d : During lightens follows w o q (exchange.apart lightens follows s0 m o l s at x row calm) Back (transmitted l x) v2 (exchange.n1 lightens follows s0 m o l s at x row calm) w3) where
    abbrev l3 : Link
    l3 = d.link

    h3 : LiveEnd w3 d.machine o l3
    h3 = live_end w3 d.machine o l3 d.stands d.linked

    low3 : l3.sender.una ≤ l3.sender.next
    low3 = (ordered_here w3 d.machine o l3 d.stands h3).una_next

    stopped : IsHeld l3 → IsStopped o number moving l3
    unfolding transmitted with_sender
    stopped held = (
      held,
      elim d.steady [
        | inl over ↦ inl over
        | inr more ↦ elim more [
          | inl same ↦ inr (ap (λ z. is_resuming z.phase) (same ∙ moving_is) ∙ running)
          | inr paused ↦ inr (paused_not_resuming l3.moving.phase paused)
        ]
      ],
    )

    module _ (f : IsFurther Back (transmitted l x) l3) where
      alive3 : l3.ended ≡ false
      unfolding transmitted with_sender
      alive3 = f.ended ∙ alive

      moving3 : l3.moving ≡ moving
      unfolding transmitted with_sender
      moving3 = f.moving ∙ moving_is

      peer3 : l3.peer ≡ l.peer
      unfolding transmitted with_sender
      peer3 = f.peer

      terms3 : l3.terms ≡ l.terms
      unfolding transmitted with_sender
      terms3 = f.terms

      e3 : end_of l3 ≡ e
      unfolding transmitted with_sender end_of_queue
      e3 = f.end

      u3 : u ≤ l3.sender.una
      unfolding transmitted with_sender
      u3 = f.una

      pieces3 : (j : ℕ) → l3.sender.una ≤ j → piece_with l3 j ≡ piece_with l j
      unfolding transmitted with_sender
      pieces3 j le = f.pieces j le

      next3 : ((up ≤ l3.sender.next) × ((l3.sender.next ≤ up) ⊎ (l3.sender.next ≤ l3.sender.una))) ⊎ (Back × (l3.sender.next ≤ l3.sender.una))
      unfolding transmitted with_sender
      next3 = f.next

      packet3 : (y : Piece) (j : ℕ) → packet_with l3 y j ≡ packet_with l y j
      packet3 y j = λ i. packet_with_of (terms3 i) (peer3 i) y j

      -- where it holds of the partner as it was left, it holds in the world after
      watch : (P : ObjName → Link → Type 0) → ((lp : Link) → (at_end v2 q).link ≡ Some lp → lp.ended ≡ false → is_paused lp.moving.phase ≡ false → place_of v1 q.context ≡ Some l.moving.partner → l3.sender.una ≤ lp.receiver.expected → P q lp) → Watches o number moving w3 P
      watch P holds p3 lp3 at3 number3 alive' runs reach3 =
          let before = d.alike.before p3 lp3 at3 in
          let is : q ≡ p3 = ap (name_of m) (peer_is ∙ (sym number3 ∙ d.alike.number p3)) ∙ one_named w m p3 before.0 s before.1 in
          let atq : (at_end w3 q).link ≡ Some lp3 = ap (λ j. (at_end w3 j).link) is ∙ at3 in
          let numberq : (at_end w3 q).number ≡ number = ap (λ j. (at_end w3 j).number) is ∙ number3 in
          let hq3 : LiveEnd w3 d.machine q lp3 = live_end w3 d.machine q lp3 d.stands atq in
          let named3 : name_of d.machine l3.peer ≡ q = ap (name_of d.machine) (peer3 ∙ (peer_is ∙ sym numberq)) ∙ one_named w3 d.machine q lp3 d.stands atq in
          let reach : place_of v1 q.context ≡ Some l.moving.partner =
          place_same w v1 q.context (alike_now lightens follows w m o l s at x row).shapes
          ∙ (sym (place_same w w3 q.context d.alike.shapes)
          ∙ (ap (λ j. place_of w3 j.context) is ∙ (reach3 ∙ ap (λ z. Some z.partner) (sym moving_is)))) in
          subst (λ j. P j lp3) is (elim d.peer.link [
            | inl same ↦ holds lp3 (sym same ∙ atq) alive' runs reach (una_expected w3 d.machine o q l3 lp3 d.stands h3 hq3 named3 alive3 alive')
            | inr paused ↦ absurd (cc (ap (λ z. is_paused z.moving.phase) (some_link paused.0 lp3 (sym paused.1 ∙ atq)), paused.2, runs))
          ])

      -- .. of a partner that was left with that link
      watch_as : (lp : Link) → (at_end v2 q).link ≡ Some lp → (P : ObjName → Link → Type 0) → (lp.ended ≡ false → l3.sender.una ≤ lp.receiver.expected → P q lp) → Watches o number moving w3 P
      watch_as lp now P holds =
          watch P (λ lp3 at3 alive' runs reach le.
          let same : lp ≡ lp3 = some_link lp lp3 (sym now ∙ at3) in
          subst (P q) same (holds (ap (λ z. z.ended) same ∙ alive') (subst (λ (z : Link). l3.sender.una ≤ z.receiver.expected) (sym same) le)))

      -- a request that lacked a receive at the partner as it was left lacks it in the world after
      dry3 : (lp lp3 : Link) (j : ℕ) → l3.sender.una ≤ j → (context_in (lives v2) q.context).regions ≡ (context_in (lives v1) q.context).regions → (at_end v2 q).domain ≡ (at_end v1 q).domain → (at_end v2 q).unused ≡ (at_end v1 q).unused → lp3.receiver.progress ≡ lp.receiver.progress → lp3.terms.mtu ≡ lp.terms.mtu →
          ((y : Piece) → piece_with l j ≡ Some y → IsDryFor (context_in (lives v1) q.context) (at_end v1 q) lp (packet_with l y j)) → IsDryAt o number moving w3 l3 q lp3 j
      dry3 lp lp3 j le regions domain unused progress mtu dry y there =
          subst (IsDryFor (context_in (lives w3) q.context) (at_end w3 q) lp3) (sym (packet3 y j))
          (dry_like (context_in (lives v1) q.context) (context_in (lives w3) q.context) (at_end v1 q) (at_end w3 q) lp lp3 (packet_with l y j)
          (d.peer.regions ∙ regions) (d.peer.domain ∙ domain) (d.peer.unused ∙ unused) progress mtu
          (dry y (sym (pieces3 j le) ∙ there)))

    finish : (IsFurther Back (transmitted l x) l3 → IsBound o number moving n w3 l3) → Budget o number moving n w3
    finish bound = record {
      machine = d.machine;
      stands = d.stands;
      link = l3;
      linked = d.linked;
      bound = elim d.turned [
        | inl held ↦ inl (stopped held)
        | inr f ↦ inr (alive3 f, moving3 f, peer3 f ∙ peer_is, bound f)
      ];
    }

  -- ---- nothing took it

  dead_budget : IsDead lightens follows w m o l s at x row → Budget o number moving n w3
  dead_budget dead =
      let d = exchange.dead_drained lightens follows s0 m o l s at x row calm dead in
      finish ⊥ d (λ f. elim (next3 ⊥ d f) [
        | inr back ↦ absurd back.0
        | inl on ↦ inr (inl (
          omega (arith, base, on.0, up_low, e3 ⊥ d f),
          watch ⊥ d f (AsksNoMore o number moving w3 d.link) (λ lp atq alive' runs reach le.
              let atq1 : (at_end v1 q).link ≡ Some lp = ap (λ cs. (named (λ z. z.name) no_end q.name (context_in cs q.context).ends).link) (sym dead.lives) ∙ atq in
              absurd (elim (dead.dead lp atq1 reach) [ inl over ↦ cc (over, alive') | inr paused ↦ cc (paused, runs) ])),
        ))
      ])

  -- ---- the partner took it

  module _ (t : IsTaken lightens follows w m o l s at x row) where
    abbrev lp : Link
    lp = t.y.link

    abbrev expected : ℕ
    expected = t.y.link.receiver.expected

    abbrev Idle : Type 0
    Idle = IsIdle t.y.context t.y.end t.y.link t.y.packet nx (exchange.s2 lightens follows s0 m o l s at x row calm t)

    context_v : context_in (lives v1) q.context ≡ t.y.context
    context_v = exchange.context_before lightens follows s0 m o l s at x row calm t

    end_v : at_end v1 q ≡ t.y.end
    end_v = exchange.end_before lightens follows s0 m o l s at x row calm t

    known : (P : ObjName → Link → Type 0) → Watches o number moving w P → P q lp
    known P h = watched lp t.linked t.alive t.running t.reach P h

    -- a request that lacked a receive before
    dry_before : (j : ℕ) → IsDryAt o number moving w l q lp j → (z : Piece) → piece_with l j ≡ Some z → IsDryFor (context_in (lives v1) q.context) (at_end v1 q) lp (packet_with l z j)
    dry_before j dry z there =
        dry_like (context_in (lives w) q.context) (context_in (lives v1) q.context) (at_end w q) (at_end v1 q) lp lp (packet_with l z j)
        (ap (λ c. c.regions) (context_w lp t.linked t.alive t.running t.reach)) (ap (λ c. c.domain) (end_w lp t.linked t.alive t.running t.reach)) (ap (λ c. c.unused) (end_w lp t.linked t.alive t.running t.reach)) refl refl (dry z there)

    dry_here : nx ≡ expected → IsDryAt o number moving w l q lp expected → IsDryFor t.y.context t.y.end lp t.y.packet
    dry_here same dry =
        subst (IsDryFor t.y.context t.y.end lp) (ap (packet_with l x) (sym same) ∙ sym t.packet)
        (dry_like (context_in (lives v1) q.context) t.y.context (at_end v1 q) t.y.end lp lp (packet_with l x expected)
        (ap (λ c. c.regions) (sym context_v)) (ap (λ c. c.domain) (sym end_v)) (ap (λ c. c.unused) (sym end_v)) refl refl
        (dry_before expected dry x (ap (piece_with l) (sym same) ∙ found)))

    dry_then : nx ≡ expected → IsDryFor t.y.context t.y.end lp t.y.packet → (z : Piece) → piece_with l expected ≡ Some z → IsDryFor (context_in (lives v1) q.context) (at_end v1 q) lp (packet_with l z expected)
    dry_then same dry z there =
        let is : x ≡ z = some_piece x z (sym found ∙ (ap (piece_with l) same ∙ there)) in
        subst (IsDryFor (context_in (lives v1) q.context) (at_end v1 q) lp) (t.packet ∙ λ i. packet_with l (is i) (same i))
        (dry_like t.y.context (context_in (lives v1) q.context) t.y.end (at_end v1 q) lp lp t.y.packet
        (ap (λ c. c.regions) context_v) (ap (λ c. c.domain) end_v) (ap (λ c. c.unused) end_v) refl refl dry)

    -- ---- it changed nothing

    module _ (i : Idle) where
      abbrev d : During lightens follows w o q (exchange.apart lightens follows s0 m o l s at x row calm) ⊥ (transmitted l x) v2 (exchange.n1 lightens follows s0 m o l s at x row calm) w3
      d = exchange.taken_drained lightens follows s0 m o l s at x row calm t ⊥ i.answers

      end_i : at_end v2 q ≡ at_end v1 q
      end_i = exchange.end_same lightens follows s0 m o l s at x row calm t i.context

      regions_i : (context_in (lives v2) q.context).regions ≡ (context_in (lives v1) q.context).regions
      regions_i = exchange.regions_same lightens follows s0 m o l s at x row calm t i.context

      link_i : (at_end v2 q).link ≡ Some lp
      link_i = ap (λ z. z.link) end_i ∙ t.linked

      module _ (f : IsFurther ⊥ (transmitted l x) d.link) (on : (up ≤ d.link.sender.next) × ((d.link.sender.next ≤ up) ⊎ (d.link.sender.next ≤ d.link.sender.una))) where
        abbrev Bound : Type 0
        Bound = IsBound o number moving n w3 d.link

        base3 : end_of d.link ≤ n + d.link.sender.next
        base3 = omega (arith, base, on.0, up_low, e3 ⊥ d f)

        dry_i : (lp.receiver.expected ≡ expected) → d.link.sender.una ≤ expected → ((z : Piece) → piece_with l expected ≡ Some z → IsDryFor (context_in (lives v1) q.context) (at_end v1 q) lp (packet_with l z expected)) → IsDryAt o number moving w3 d.link q lp expected
        dry_i same le dry = dry3 ⊥ d f lp lp expected le regions_i (ap (λ z. z.domain) end_i) (ap (λ z. z.unused) end_i) refl refl dry

        -- a repeat
        repeat_bound : nx < expected → Bound
        repeat_bound before =
            let in_step : d.link.sender.una ≤ expected → d.link.sender.next ≤ expected = λ le. elim on.1 [ inl h ↦ omega (arith, h, up_before lp t.linked t.alive t.running t.reach before) | inr h ↦ omega (arith, h, le) ] in
            elim b [
              | inl h ↦ absurd (omega (arith, h, up_low, up_end))
              | inr b1 ↦ elim b1 [
                | inl h ↦
                    let g = known (AsksNoMore o number moving w l) h.1 in
                    elim g.1 [
                      | inl past' ↦ absurd (omega (arith, past', before))
                      | inr dry ↦ inr (inl (base3, watch_as ⊥ d f lp link_i (AsksNoMore o number moving w3 d.link) (λ al le. (g.0, inr (dry_i refl le (dry_before expected dry))))))
                    ]
                | inr b2 ↦ elim b2 [
                  | inl h ↦ inr (inr (inl (omega (arith, h.0, on.0, up_low, e3 ⊥ d f, u3 ⊥ d f), watch_as ⊥ d f lp link_i (IsInStep o number moving d.link) (λ al le. in_step le))))
                  | inr b3 ↦ elim b3 [
                    | inl h ↦ absurd (let g = known (IsStuck o number moving w l) h.1 in omega (arith, g.0, before))
                    | inr h ↦ inr (inr (inl (omega (arith, h, on.0, low, up_low, e3 ⊥ d f, u3 ⊥ d f), watch_as ⊥ d f lp link_i (IsInStep o number moving d.link) (λ al le. in_step le))))
                  ]
                ]
              ]
            ]

        -- ahead of a number that was asked for
        ahead_bound : expected < nx → lp.receiver.nak_sent ≡ true → Bound
        ahead_bound past' asked = inr (inl (base3, watch_as ⊥ d f lp link_i (AsksNoMore o number moving w3 d.link) (λ al le. (asked, inl (omega (arith, past', on.0, up_low))))))

        -- the partner lacks a receive
        dry_bound : nx ≡ expected → IsDryFor t.y.context t.y.end lp t.y.packet → Bound
        dry_bound same dry = by_asked lp.receiver.nak_sent refl
          where
            stuck : 1 + end_of d.link ≤ n + d.link.sender.una → Bound
            stuck h = inr (inr (inr (inl (h, watch_as ⊥ d f lp link_i (IsStuck o number moving w3 d.link) (λ al le. (omega (arith, same, on.0, up_low), dry_i refl le (dry_then same dry)))))))

            by_end : (c : Bool) → nat_le (end_of d.link) d.link.sender.next ≡ c → lp.receiver.nak_sent ≡ false → Bound
            by_end true k not_asked = inl (grind (arith, nat_tests, leb_tells (end_of d.link) d.link.sender.next, k))
            by_end false k not_asked =
                let short : d.link.sender.next < end_of d.link = grind (arith, nat_tests, leb_tells (end_of d.link) d.link.sender.next, k) in
                elim b [
                  | inl h ↦ absurd (omega (arith, h, up_low, up_end))
                  | inr b1 ↦ elim b1 [
                    | inl h ↦ let g = known (AsksNoMore o number moving w l) h.1 in absurd (cc (g.0, not_asked))
                    | inr b2 ↦ elim b2 [
                      | inl h ↦ stuck (omega (arith, h.0, on.0, up_low, e3 ⊥ d f, u3 ⊥ d f, short))
                      | inr b3 ↦ elim b3 [
                        | inl h ↦ absurd (let g = known (IsStuck o number moving w l) h.1 in omega (arith, g.0, same))
                        | inr h ↦ stuck (omega (arith, h, on.0, low, up_low, up_end, e3 ⊥ d f, u3 ⊥ d f, short))
                      ]
                    ]
                  ]
                ]

            by_asked : (c : Bool) → lp.receiver.nak_sent ≡ c → Bound
            by_asked true k = inr (inl (base3, watch_as ⊥ d f lp link_i (AsksNoMore o number moving w3 d.link) (λ al le. (k, inl (omega (arith, same, on.0, up_low))))))
            by_asked false k = by_end (nat_le (end_of d.link) d.link.sender.next) refl k

        idle_bound : Bound
        idle_bound = elim i.why [
          | inl before ↦ repeat_bound before
          | inr more ↦ elim more [
            | inl past' ↦ ahead_bound past'.0 past'.1
            | inr dry ↦ dry_bound dry.0 dry.1
          ]
        ]

      idle_budget : Budget o number moving n w3
      idle_budget = finish ⊥ d (λ f. elim (next3 ⊥ d f) [ inr back ↦ absurd back.0 | inl on ↦ idle_bound f on ])

    -- ---- it asks for the expected number

    module _ (a : Asks t.y.context t.y.end t.y.link t.y.packet nx (exchange.s2 lightens follows s0 m o l s at x row calm t)) where
      abbrev da : During lightens follows w o q (exchange.apart lightens follows s0 m o l s at x row calm) (Unit {0}) (transmitted l x) v2 (exchange.n1 lightens follows s0 m o l s at x row calm) w3
      da = exchange.taken_drained lightens follows s0 m o l s at x row calm t (Unit {0}) a.answers

      abbrev lpa : Link
      lpa = with_receiver lp (record lp.receiver { nak_sent = true })

      end_a : at_end v2 q ≡ with_link t.y.end lpa
      end_a = exchange.end_changed lightens follows s0 m o l s at x row calm t lpa a.context

      link_a : (at_end v2 q).link ≡ Some lpa
      unfolding with_link
      link_a = ap (λ z. z.link) end_a

      regions_a : (context_in (lives v2) q.context).regions ≡ (context_in (lives v1) q.context).regions
      regions_a = exchange.regions_kept lightens follows s0 m o l s at x row calm t lpa a.context ∙ ap (λ c. c.regions) (sym context_v)

      domain_a : (at_end v2 q).domain ≡ (at_end v1 q).domain
      unfolding with_link
      domain_a = ap (λ z. z.domain) end_a ∙ ap (λ z. z.domain) (sym end_v)

      unused_a : (at_end v2 q).unused ≡ (at_end v1 q).unused
      unfolding with_link
      unused_a = ap (λ z. z.unused) end_a ∙ ap (λ z. z.unused) (sym end_v)

      asked_a : lpa.receiver.nak_sent ≡ true
      unfolding with_receiver
      asked_a = refl

      expected_a : lpa.receiver.expected ≡ expected
      unfolding with_receiver
      expected_a = refl

      module _ (f : IsFurther (Unit {0}) (transmitted l x) da.link) where
        dry_a : da.link.sender.una ≤ lpa.receiver.expected → IsDryAt o number moving w l q lp expected → IsDryAt o number moving w3 da.link q lpa lpa.receiver.expected
        unfolding with_receiver
        dry_a le dry = dry3 (Unit {0}) da f lp lpa expected le regions_a domain_a unused_a refl refl (dry_before expected dry)

        on_bound : up ≤ da.link.sender.next → IsBound o number moving n w3 da.link
        on_bound on = inr (inl (
          omega (arith, base, on, up_low, e3 (Unit {0}) da f),
          watch_as (Unit {0}) da f lpa link_a (AsksNoMore o number moving w3 da.link) (λ al le. (asked_a, inl (omega (arith, a.ahead, expected_a, on, up_low)))),
        ))

        back_bound : da.link.sender.next ≤ da.link.sender.una → IsBound o number moving n w3 da.link
        back_bound back = elim b [
          | inl h ↦ absurd (omega (arith, h, up_low, up_end))
          | inr b1 ↦ elim b1 [
            | inl h ↦ let g = known (AsksNoMore o number moving w l) h.1 in absurd (cc (g.0, a.first))
            | inr b2 ↦ elim b2 [
              | inl h ↦ absurd (omega (arith, known (IsInStep o number moving l) h.1, a.ahead))
              | inr b3 ↦ elim b3 [
                | inl h ↦
                    let g = known (IsStuck o number moving w l) h.1 in
                    inr (inl (
                      omega (arith, h.0, e3 (Unit {0}) da f, u3 (Unit {0}) da f, low3 (Unit {0}) da),
                      watch_as (Unit {0}) da f lpa link_a (AsksNoMore o number moving w3 da.link) (λ al le. (asked_a, inr (dry_a le g.1))),
                    ))
                | inr h ↦ inr (inr (inl (
                  omega (arith, h, e3 (Unit {0}) da f, u3 (Unit {0}) da f, low3 (Unit {0}) da),
                  watch_as (Unit {0}) da f lpa link_a (IsInStep o number moving da.link) (λ al le. omega (arith, back, le)),
                )))
              ]
            ]
          ]
        ]

      asks_budget : Budget o number moving n w3
      asks_budget = finish (Unit {0}) da (λ f. elim (next3 (Unit {0}) da f) [ inl on ↦ on_bound f on.0 | inr back ↦ back_bound f back.1 ])

    -- ---- it refuses

    module _ (r : Refuses t.y.context t.y.end t.y.link t.y.packet nx (exchange.s2 lightens follows s0 m o l s at x row calm t)) where
      abbrev dr : During lightens follows w o q (exchange.apart lightens follows s0 m o l s at x row calm) (Unit {0}) (transmitted l x) v2 (exchange.n1 lightens follows s0 m o l s at x row calm) w3
      dr = exchange.taken_drained lightens follows s0 m o l s at x row calm t (Unit {0}) r.answers

      link_r : (at_end v2 q).link ≡ Some r.link
      link_r = exchange.link_then lightens follows s0 m o l s at x row calm t ∙ r.linked

      module _ (f : IsFurther (Unit {0}) (transmitted l x) dr.link) where
        over_bound : end_of dr.link ≤ n + dr.link.sender.next → IsBound o number moving n w3 dr.link
        over_bound h = inr (inl (h, watch_as (Unit {0}) dr f r.link link_r (AsksNoMore o number moving w3 dr.link) (λ al le. absurd (cc (al, r.ended)))))

        once : e ≤ n + u
        once = elim b [
          | inl h ↦ absurd (omega (arith, h, up_low, up_end))
          | inr b1 ↦ elim b1 [
            | inl h ↦
                let g = known (AsksNoMore o number moving w l) h.1 in
                absurd (elim g.1 [ inl past' ↦ omega (arith, past', r.at) | inr dry ↦ r.not_dry (dry_here r.at dry) ])
            | inr b2 ↦ elim b2 [
              | inl h ↦ omega (arith, h.0, up_low, up_end)
              | inr b3 ↦ elim b3 [
                | inl h ↦ absurd (let g = known (IsStuck o number moving w l) h.1 in omega (arith, g.0, r.at))
                | inr h ↦ omega (arith, h, low, up_low, up_end)
              ]
            ]
          ]
        ]

        refuses_bound : IsBound o number moving n w3 dr.link
        refuses_bound = over_bound (omega (arith, once, e3 (Unit {0}) dr f, u3 (Unit {0}) dr f, low3 (Unit {0}) dr))

      refuses_budget : Budget o number moving n w3
      refuses_budget = finish (Unit {0}) dr (λ f. refuses_bound f)

    -- ---- the request acts

    module _ (c : Acts t.y.context t.y.end t.y.link t.y.packet nx (exchange.s2 lightens follows s0 m o l s at x row calm t)) where
      abbrev dc : During lightens follows w o q (exchange.apart lightens follows s0 m o l s at x row calm) ⊥ (transmitted l x) v2 (exchange.n1 lightens follows s0 m o l s at x row calm) w3
      dc = exchange.taken_drained lightens follows s0 m o l s at x row calm t ⊥ c.answers

      link_c : (at_end v2 q).link ≡ Some c.link
      link_c = exchange.link_then lightens follows s0 m o l s at x row calm t ∙ c.linked

      expected_c : c.link.receiver.expected ≡ up
      expected_c =
          let span : span_of_packet t.y.packet lp.terms.mtu t.y.packet.reth ≡ span_of_packet (packet_with l x nx) l.terms.mtu (packet_with l x nx).reth = λ i. span_of_packet (t.packet i) (t.mtu i) (t.packet i).reth in
          omega (arith, c.expected, c.at, span, numbers_now lightens follows w m o l s at x row)

      module _ (f : IsFurther ⊥ (transmitted l x) dc.link) (on : (up ≤ dc.link.sender.next) × ((dc.link.sender.next ≤ up) ⊎ (dc.link.sender.next ≤ dc.link.sender.una))) where
        in_step : end_of dc.link + end_of dc.link ≤ n + dc.link.sender.next + dc.link.sender.una → IsBound o number moving n w3 dc.link
        in_step h = inr (inr (inl (h, watch_as ⊥ dc f c.link link_c (IsInStep o number moving dc.link) (λ al le. elim on.1 [ inl k ↦ omega (arith, k, expected_c) | inr k ↦ omega (arith, k, le) ]))))

        acts_bound : IsBound o number moving n w3 dc.link
        acts_bound = elim b [
          | inl h ↦ absurd (omega (arith, h, up_low, up_end))
          | inr b1 ↦ elim b1 [
            | inl h ↦
                let g = known (AsksNoMore o number moving w l) h.1 in
                absurd (elim g.1 [ inl past' ↦ omega (arith, past', c.at) | inr dry ↦ c.not_dry (dry_here c.at dry) ])
            | inr b2 ↦ elim b2 [
              | inl h ↦ in_step (omega (arith, h.0, on.0, up_low, e3 ⊥ dc f, u3 ⊥ dc f))
              | inr b3 ↦ elim b3 [
                | inl h ↦ absurd (let g = known (IsStuck o number moving w l) h.1 in omega (arith, g.0, c.at))
                | inr h ↦ in_step (omega (arith, h, on.0, low, up_low, e3 ⊥ dc f, u3 ⊥ dc f))
              ]
            ]
          ]
        ]

      acts_budget : Budget o number moving n w3
      acts_budget = finish ⊥ dc (λ f. elim (next3 ⊥ dc f) [ inr back ↦ absurd back.0 | inl on ↦ acts_bound f on ])

    taken_budget : Budget o number moving n w3
    taken_budget = elim t.outcome [
      | inl idle ↦ idle_budget idle
      | inr more ↦ elim more [
        | inl asks ↦ asks_budget asks
        | inr others ↦ elim others [
          | inl refuses ↦ refuses_budget refuses
          | inr acts ↦ acts_budget acts
        ]
      ]
    ]

  -- one send takes one from what is left
  pub sent_budget : Budget o number moving n w3
  sent_budget = elim (first_delivery lightens follows w m o l s at x row) [ inl dead ↦ dead_budget dead | inr t ↦ taken_budget t ]
