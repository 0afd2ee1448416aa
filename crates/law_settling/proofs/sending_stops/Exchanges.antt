-- An end sends a piece, and all that comes of it is drained.
use Rattle.std.proofs.Common.{arith, ◌≡◌, ◌≢◌, ◌≤◌, ◌+◌, ℕ, [], ◌∷◌, length, refl, sym, ap, ◌∙◌, subst, inl, inr}
use Rattle.std.specs.Prelude.{All, Contains, Some, None, slice_get}
use Rattle.std.proofs.lemmas.List.Elements.{All-contains}
use Rattle.rdma_types.specs.declared.names.ObjName.{ObjName}
use Rattle.rdma_types.specs.declared.answers.Sent.{Sent}
use Rattle.rdma_types.specs.Lists.{named, store_named}
use Rattle.rdma_types.specs.Spans.{Piece}
use Rattle.protocol.specs.declared.events.WorldEvent.{WorldEvent}
use Rattle.protocol.specs.declared.events.WorldEvent.TheVariants as world_events
use Rattle.protocol.specs.Fabric.{pending, pending_numbers}
use Rattle.protocol.specs.State.{World, Link, Flight, no_context, no_end}
use Rattle.protocol.specs.EndStep.{takes}
use Rattle.protocol.specs.EndWords as words
use Rattle.protocol.specs.EndWords.{EndStep, is_paused, is_resuming, linked, with_link, with_receiver, with_sender}
use Rattle.protocol.specs.Requester.{Sends, transmission, transmitted}
use Rattle.protocol.specs.Settle.{Settling, delivering, drained, pass, settle_step, stepped_to, transmit}
use Rattle.packetless_machine.specs.Machine as machine
use Rattle.packetless_machine.specs.Machine.{Machine}
use Rattle.packetless_machine.specs.Legal.{after}
use Rattle.law_simulation.specs.Law.{AlwaysFollows, Follows}
use Rattle.law_simulation.specs.Stands.{Stands}
use Rattle.law_simulation.specs.Views.{name_of}
use Rattle.law_simulation.proofs.relation.Grown.{are_made}
use Rattle.law_simulation.proofs.relation.Tables.{named-store_same, same_name}
use Rattle.law_simulation.proofs.relation.Worlds.{shapes_of}
use Rattle.law_simulation.proofs.delivery.Arriving.{stored_again}
use Rattle.law_simulation.proofs.sending.GoLive.{LiveEnd, joined_here, link_is}
use Rattle.law_settling.proofs.draining.Pending.{contains_cases, pending_listed}
use Rattle.law_settling.proofs.draining.Arrivals.{delivered, grows, still_pending}
use Rattle.law_settling.specs.Weights.{TakingLightens}
use Rattle.law_settling.proofs.bound.Lives.{lives, at_end, context_in, name_is}
use Rattle.law_settling.proofs.bound.Delivering.{delivered_go}
use Rattle.law_settling.proofs.bound.Turns.{live_end}
use Rattle.law_settling.proofs.sending_stops.Turns.{IsAnswerTo, IsFurther}
use Rattle.law_settling.proofs.sending_stops.Arrivals.{Lands}
use Rattle.law_settling.proofs.sending_stops.Draining.{During, IsSorted, pass_during}
use Rattle.law_settling.proofs.sending_stops.Landing.{IsDead, IsTaken, h1, hp, named1, w1, w2}
use Rattle.law_settling.proofs.sending_stops.Pairs.{back_number}
use Rattle.law_settling.proofs.sending_stops.Places.{alike_on, context_else, context_now, end_else, number_is}
use Rattle.law_settling.proofs.sending_stops.Sending.{alike_now, flight, link_now, machine_now, one_pending, sent_now, stands_now}

contains_one : (a b : ℕ) → Contains (a ∷ []) b → b ≡ a
contains_one a b h = elim (contains_cases b a [] h) [ inl e ↦ sym e | inr n ↦ absurd (omega (arith, n.1)) ]

module _ (lightens : TakingLightens) (follows : (e : WorldEvent) → AlwaysFollows e) (s0 : Settling) (m : Machine) (o : ObjName) (l : Link) (s : Stands s0.world m) (at : (at_end s0.world o).link ≡ Some l) (x : Piece) (row : transmission l ≡ Sends x) (calm : pending s0.world.sent ≡ None) where
  abbrev pub w : World
  w = s0.world

  abbrev pub v1 : World
  v1 = w1 lightens follows w m o l s at x row

  abbrev pub v2 : World
  v2 = w2 lightens follows w m o l s at x row

  abbrev pub n1 : ℕ
  n1 = length v1.sent

  abbrev pub q : ObjName
  q = name_of m l.peer

  abbrev pub k1 : ℕ
  k1 = length w.sent + 1

  abbrev m1 : Machine
  m1 = machine_now lightens follows w m o l s at x row

  abbrev s1 : Stands v1 m1
  s1 = stands_now lightens follows w m o l s at x row

  -- the settling after the transmission
  abbrev pub t1 : Settling
  t1 = settle_step s0 (transmit o)

  pub apart : q.context ≢ o.context
  apart h =
      let hh : LiveEnd w m o l = live_end w m o l s at in
      let j = joined_here w m o l s hh in
      let number : l.peer ≡ (machine.end_of m (machine.end_of m o).peer).number = ap (λ z. z.peer) (sym (link_is w m o l s hh)) ∙ j.number in
      let is : q ≡ (machine.end_of m o).peer = ap (name_of m) number ∙ s.numbered.named (machine.end_of m o).peer (are_made w m s (machine.end_of m o).peer j.connected) in
      absurd (cc (j.apart, is, h, same_name o.context))

  pub not_it : q ≢ o
  not_it h = apart (ap (λ n. n.context) h)

  listed : pending_numbers v1.sent ≡ k1 ∷ []
  listed = ap pending_numbers (sent_now lightens follows w m o l s at x row) ∙ one_pending w.sent (flight lightens follows w m o l s at x row) calm refl refl

  first_pass : (pass t1).world ≡ v2
  unfolding settle_step stepped_to delivering
  first_pass = ap (λ ks. (delivering t1 ks).world) listed

  abbrev pub Draining : Type 0 → World → Type 0
  Draining Back z = During lightens follows w o q apart Back (transmitted l x) v2 n1 z

  pub drained_from : (Back : Type 0) → Draining Back v2 → Draining Back (drained t1).world
  unfolding drained
  drained_from Back d =
      let one : Draining Back (pass t1).world = subst (Draining Back) (sym first_pass) d in
      let two : Draining Back (pass (pass t1)).world = pass_during lightens follows w o q apart Back (transmitted l x) v2 n1 (pass t1) one in
      pass_during lightens follows w o q apart Back (transmitted l x) v2 n1 (pass (pass t1)) two

  f2 : Follows v1 m1 (world_events.Deliver k1)
  f2 = follows (world_events.Deliver k1) v1 m1 tt s1

  same_further : (Back : Type 0) (z : Link) → IsFurther Back z z
  same_further Back z = record { ended = refl; wait = refl; peer = refl; terms = refl; moving = refl; end = refl; una = omega arith; pieces = λ n le. refl; next = inl (omega arith, inl (omega arith)) }

  -- after the first delivery
  begin : (Back : Type 0) → shapes_of v2 ≡ shapes_of v1 → (at_end v2 o).link ≡ Some (transmitted l x) → ((j : ℕ) (g : Flight) → n1 ≤ j → slice_get v2.sent j ≡ Some g → IsSorted (at_end w o).number Back g.bytes) → Draining Back v2
  unfolding f2
  begin Back shapes link sorted = record {
    machine = after m1 f2.steps;
    stands = f2.stands;
    alike = alike_on (λ n. 0) _ w v1 v2 (alike_now lightens follows w m o l s at x row) (delivered_go lightens (λ n. 0) v1 m1 k1 s1) shapes;
    link = transmitted l x;
    linked = link;
    turned = inr (same_further Back (transmitted l x));
    steady = inr (inl refl);
    peer = record { regions = refl; domain = refl; unused = refl; link = inl refl };
    others = λ z ne. inl refl;
    most = grows v1 v2 k1 (delivered v1 k1);
    sorted = sorted;
    later = λ j g h. elim (still_pending v1 v2 k1 (delivered v1 k1) j g h) [
      | inl a ↦ absurd (a.1 (contains_one k1 j (subst (λ ks. Contains ks j) listed (pending_listed v1.sent j g a.0))))
      | inr b ↦ b.0
    ];
  }

  -- ---- where nothing takes the request

  pub dead_drained : IsDead lightens follows w m o l s at x row → Draining ⊥ (drained t1).world
  dead_drained dead =
      drained_from ⊥ (begin ⊥ dead.shapes
      (ap (λ cs. (named (λ e. e.name) no_end o.name (context_in cs o.context).ends).link) dead.lives ∙ link_now lightens follows w m o l s at x row)
      (λ j g past there. inl (dead.fresh j g past there)))

  -- ---- where the partner takes the request

  module _ (t : IsTaken lightens follows w m o l s at x row) where
    abbrev pub y : Lands v1 m1 k1 v2
    y = t.y

    abbrev pub s2 : EndStep
    s2 = takes y.context y.end y.link y.packet

    abbrev r : ObjName
    r = name_of m1 y.packet.dest

    e_name : y.end.name ≡ r.name
    e_name = name_is v1 r y.context y.end y.link y.there

    r_context : context_in (lives v2) r.context ≡ s2.context
    r_context = context_now v1 v2 r y.context y.there.context s2.context y.lives y.called

    o_context : context_in (lives v2) o.context ≡ context_in (lives v1) o.context
    o_context = context_else v1 v2 r y.context y.there.context s2.context y.lives y.called o.context (λ h. apart (ap (λ n. n.context) (sym t.name) ∙ sym h))

    number : y.link.peer ≡ (at_end w o).number
    number =
        back_number v1 m1 o q (transmitted l x) y.link s1 (h1 lightens follows w m o l s at x row) (hp lightens follows w m o l s at x row y.link t.linked) (named1 lightens follows w m o l s at x row y.link t.linked)
        ∙ (number_is v1 m1 o (transmitted l x) s1 (link_now lightens follows w m o l s at x row) ∙ (alike_now lightens follows w m o l s at x row).number o)

    pub taken_drained : (Back : Type 0) → All (λ (z : Sent). IsAnswerTo y.link.peer Back z.bytes) s2.sent → Draining Back (drained t1).world
    taken_drained Back answers =
        drained_from Back (begin Back y.shapes
        (ap (λ c. (named (λ e. e.name) no_end o.name c.ends).link) o_context ∙ link_now lightens follows w m o l s at x row)
        (λ j g past there.
        let z = y.fresh j g past there in
        inr (subst (λ bs. IsAnswerTo (at_end w o).number Back bs) z.2 (subst (λ n. IsAnswerTo n Back z.0.bytes) number (All-contains (λ (u : Sent). IsAnswerTo y.link.peer Back u.bytes) s2.sent z.0 answers z.1)))))

    -- every other end stays
    pub else_then : (z : ObjName) → z ≢ q → at_end v2 z ≡ at_end v1 z
    else_then z ne =
        end_else v1 v2 r y.context y.there.context s2.context y.lives y.called y.after_end (y.ends ∙ ap (λ n. store_named (λ e. e.name) n y.after_end y.context.ends) e_name) (y.after_name ∙ e_name) z
        (λ h. ne (h ∙ t.name))

    -- ---- the partner after it

    q_context : context_in (lives v2) q.context ≡ s2.context
    q_context = ap (λ n. context_in (lives v2) n.context) (sym t.name) ∙ r_context

    pub link_then : (at_end v2 q).link ≡ (named (λ z. z.name) no_end y.end.name s2.context.ends).link
    link_then =
        ap (λ n. (at_end v2 n).link) (sym t.name)
        ∙ (ap (λ c. (named (λ z. z.name) no_end r.name c.ends).link) r_context ∙ ap (λ n. (named (λ z. z.name) no_end n s2.context.ends).link) (sym e_name))

    -- before it
    pub context_before : context_in (lives v1) q.context ≡ y.context
    context_before = ap (λ n. context_in (lives v1) n.context) (sym t.name) ∙ y.there.context

    pub end_before : at_end v1 q ≡ y.end
    end_before = ap (at_end v1) (sym t.name) ∙ (ap (λ c. named (λ z. z.name) no_end r.name c.ends) y.there.context ∙ y.there.end)

    -- where its context stays
    module _ (same : s2.context ≡ y.context) where
      lives_same : lives v2 ≡ lives v1
      lives_same = y.lives ∙ (ap (λ z. store_named (λ c. c.name) r.context z (lives v1)) (same ∙ sym y.there.context) ∙ stored_again (λ c. c.name) no_context r.context (lives v1) y.there.live)

      pub end_same : at_end v2 q ≡ at_end v1 q
      end_same = ap (λ cs. named (λ e. e.name) no_end q.name (context_in cs q.context).ends) lives_same

      pub regions_same : (context_in (lives v2) q.context).regions ≡ (context_in (lives v1) q.context).regions
      regions_same = ap (λ cs. (context_in cs q.context).regions) lives_same

    -- where its link alone changes
    module _ (l' : Link) (changed : s2.context ≡ linked y.context y.end l') where
      pub end_changed : at_end v2 q ≡ with_link y.end l'
      unfolding words.with_end with_link
      end_changed =
          ap (at_end v2) (sym t.name)
          ∙ (ap (λ c. named (λ z. z.name) no_end r.name c.ends) (r_context ∙ changed)
          ∙ (ap (λ n. named (λ z. z.name) no_end n (store_named (λ z. z.name) y.end.name (with_link y.end l') y.context.ends)) (sym e_name)
          ∙ named-store_same (λ z. z.name) no_end y.end.name (with_link y.end l') y.context.ends refl))

      pub regions_kept : (context_in (lives v2) q.context).regions ≡ y.context.regions
      unfolding words.with_end
      regions_kept = ap (λ c. c.regions) (q_context ∙ changed)
