-- What every step of a settling keeps, and how it lightens.
use Rattle.std.proofs.Common.{arith, ◌≡◌, ◌≤◌, ◌<◌, ◌-◌, ℕ, zero, suc, List, [], ◌∷◌, ◌++◌, length, map, true, false, Bool, refl, sym, ap, ◌∙◌, subst, inl, inr}
use Rattle.std.specs.Prelude.{All, Contains, Option, Some, None, slice_get, sum_by, if◌then◌else◌, ◌==◌, ◌&&◌, ◌||◌, not, nat_lt, bytes_eq}
use Rattle.std.proofs.lemmas.List.{length-append}
use Rattle.std.proofs.lemmas.Option.{slice_get_within}
use Rattle.std.proofs.lemmas.Bool.Decides.{nat_tests, eqb_tells}
use Rattle.std.proofs.lemmas.List.Elements.{All-contains, All-head, All-tail, All-contains_itself}
use Rattle.rdma_types.specs.declared.names.ObjName.{ObjName}
use Rattle.rdma_types.specs.Lists.{first_that, same_object}
use Rattle.protocol.specs.declared.events.Event.TheVariants as events
use Rattle.protocol.specs.declared.events.WorldEvent.{WorldEvent}
use Rattle.protocol.specs.declared.events.WorldEvent.TheVariants as world_events
use Rattle.protocol.specs.EndWords.{is_paused, is_resuming, is_resuming_link, is_running}
use Rattle.protocol.specs.Fabric.{pending_numbers}
use Rattle.protocol.specs.Requester.{not_counted}
use Rattle.protocol.specs.State.{World, Link, Flight, context_at, end_at}
use Rattle.protocol.specs.WorldStep.{home, live_context, world_step}
use Rattle.protocol.specs.Settle.{Settling, Waited, settle_step, stepped_to, delivering, pass, drained, is_sent, transmit, sending_all, sending_fuel, link_at, sends_all, sends_if_running, visited, visiting, live_names, may_step, last_wait, noting, rnr_by, rnr_visit, has_stepped, expire_by, expire_visit, timers, timers_if_still, round, mark_of, marks, same_marks, partner_ended, unacknowledged}
use Rattle.packetless_machine.specs.Machine.{Machine}
use Rattle.packetless_machine.specs.Legal.{after}
use Rattle.law_simulation.specs.Law.{AlwaysFollows, Follows}
use Rattle.law_simulation.specs.Stands.{Stands}
use Rattle.law_simulation.proofs.relation.Tables.{same_name, name_tells}
use Rattle.rdma_types.specs.declared.answers.ExpiryIgnored.TheVariants as not_why
use Rattle.law_settling.proofs.draining.Pending.{IsPending, contains_here, contains_later, get_append_cases, kept_is, kept_when, numbers_pend}
use Rattle.law_settling.proofs.draining.Replies.{IsReply}
use Rattle.law_settling.proofs.draining.Arrivals.{IsDelivered, delivered, grows, bytes_back, still_pending}
use Rattle.law_settling.specs.Weights.{GoesOn, HasFew, TakingLightens, same_mark, weight}
use Rattle.law_settling.proofs.bound.Lives.{at_end, end_is, link_is, AllGoOn, LinkGoesOn}
use Rattle.law_settling.proofs.bound.Delivering.{Fresh, News, delivered_go}
use Rattle.law_settling.proofs.bound.Turns.{Turns, fresh_other, live_end, transmit_turns, expire_fell, rnr_over_falls}
use Rattle.law_settling.proofs.bound.Sums.{sum_most, sum_less, sum_marked, marks_listed}

-- ---- the weight of an end, connected or not

abbrev pub link_weight : ℕ → Option Waited → Option Link → ℕ
link_weight k x None = 0
link_weight k x (Some l) = weight k x l

pub link_no_more : (k : ℕ) (P : Type 0) → P → (x : Option Waited) (a b : Option Link) → LinkGoesOn k P a b → link_weight k x b ≤ link_weight k x a
link_no_more k P p x None None g = omega arith
link_no_more k P p x (Some l) (Some l') g = (g.lightens p).no_more x
link_no_more k P p x None (Some l) g = absurd g
link_no_more k P p x (Some l) None g = absurd g

pub link_less : (k : ℕ) (P : Type 0) → P → (x : Option Waited) (a b : Option Link) → LinkGoesOn k P a b → same_mark (mark_of a) (mark_of b) ≡ false → link_weight k x b < link_weight k x a
link_less k P p x None None g d = absurd (cc)
link_less k P p x (Some l) (Some l') g d = (g.lightens p).less x d
link_less k P p x None (Some l) g d = absurd g
link_less k P p x (Some l) None g d = absurd g

pub link_fewer : (k : ℕ) (P : Type 0) (a b : Option Link) → LinkGoesOn k P a b → unacknowledged b ≤ unacknowledged a
link_fewer k P None None g = omega arith
link_fewer k P (Some l) (Some l') g = g.fewer
link_fewer k P None (Some l) g = absurd g
link_fewer k P (Some l) None g = absurd g

-- a link comes of one that goes on
link_before : (k : ℕ) (P : Type 0) (a b : Option Link) (l' : Link) → LinkGoesOn k P a b → b ≡ Some l' → (l : Link) × (a ≡ Some l) × GoesOn k P l l'
link_before k P None None l' g h = absurd (cc)
link_before k P (Some l) (Some l1) l' g h = let e : l1 ≡ l' = cc in (l, refl, subst (GoesOn k P l) e g)
link_before k P None (Some l) l' g h = absurd g
link_before k P (Some l) None l' g h = absurd g

module _ (lightens : TakingLightens) (follows : (e : WorldEvent) → AlwaysFollows e) (K : ℕ → ℕ) (os : List ObjName) (N : ObjName → ℕ) where
  -- ---- what a world keeps

  pub record Base (w : World) : Type 0 where
    pub machine : Machine
    pub stands : Stands w machine
    pub names : live_names w ≡ os
    pub number : (o : ObjName) → (at_end w o).number ≡ N o
    pub own : (o : ObjName) (l : Link) → (at_end w o).link ≡ Some l → l.moving.own ≡ K l.peer
    pub few : (o : ObjName) (l : Link) → (at_end w o).link ≡ Some l → HasFew l

  -- a world to which all ends go on keeps it
  base_on : (P : Type 0) (w w' : World) → Base w → AllGoOn K P w w' → (m' : Machine) → Stands w' m' → Base w'
  base_on P w w' b g m' stands = record {
    machine = m';
    stands = stands;
    names = g.names ∙ b.names;
    number = λ o. g.number o ∙ b.number o;
    own = λ o l' h. let t = link_before _ P _ _ l' (g.links o) h in t.2.own ∙ (b.own o t.0 t.1 ∙ sym (ap K t.2.peer));
    few = λ o l' h. let t = link_before _ P _ _ l' (g.links o) h in t.2.few (b.few o t.0 t.1);
  }

  deliver_base : (w : World) (k : ℕ) → Base w → Base (world_step w (world_events.Deliver k)).world
  deliver_base w k b =
      let f : Follows w b.machine (world_events.Deliver k) = follows (world_events.Deliver k) w b.machine tt b.stands in
      base_on _ w _ b (delivered_go lightens K w b.machine k b.stands) (after b.machine f.steps) f.stands

  -- ---- the first drain

  -- the sum of the unacknowledged numbers
  abbrev pub unacknowledged_all : World → ℕ
  unacknowledged_all w = sum_by (λ o. unacknowledged (at_end w o).link) os

  pub record Drains (w w' : World) : Type 0 where
    pub base : Base w'
    pub fewer : unacknowledged_all w' ≤ unacknowledged_all w

  fewer_all : (P : Type 0) (w w' : World) → AllGoOn K P w w' → unacknowledged_all w' ≤ unacknowledged_all w
  fewer_all P w w' g = sum_most _ _ os (λ o. link_fewer _ P _ _ (g.links o))

  delivering_base : (ks : List ℕ) (s : Settling) → Base s.world → Drains s.world (delivering s ks).world
  unfolding delivering settle_step stepped_to
  delivering_base [] s b = record { base = b; fewer = omega arith }
  delivering_base (k ∷ ks) s b =
      let w' : World = (world_step s.world (world_events.Deliver k)).world in
      let d = delivering_base ks (settle_step s (world_events.Deliver k)) (deliver_base s.world k b) in
      record { base = d.base; fewer = omega (arith, d.fewer, fewer_all _ s.world w' (delivered_go lightens K s.world b.machine k b.stands)) }

  pub drained_base : (s : Settling) → Base s.world → Drains s.world (drained s).world
  unfolding drained
  drained_base s b =
      let one = delivering_base (pending_numbers s.world.sent) s b in
      let two = delivering_base (pending_numbers (pass s).world.sent) (pass s) one.base in
      let three = delivering_base (pending_numbers (pass (pass s)).world.sent) (pass (pass s)) two.base in
      record { base = three.base; fewer = omega (arith, one.fewer, two.fewer, three.fewer) }

  -- ---- after the first drain: what is on its way is news, and was sent since

  module _ (n0 : ℕ) where
    pub record Kept (w : World) : Type 0 where
      pub base : Base w
      pub most : n0 ≤ length w.sent
      pub fresh : (j : ℕ) (f : Flight) → n0 ≤ j → slice_get w.sent j ≡ Some f → Fresh K f.bytes
      pub later : (j : ℕ) (f : Flight) → IsPending w.sent j f → n0 < j

    -- after a delivery of what was sent since
    deliver_kept : (w : World) (k : ℕ) → n0 < k → Kept w → Kept (world_step w (world_events.Deliver k)).world
    deliver_kept w k above kept =
        let w' : World = (world_step w (world_events.Deliver k)).world in
        let h : IsDelivered w w' k = delivered w k in
        record {
          base = deliver_base w k kept.base;
          most = omega (arith, kept.most, grows w w' k h);
          fresh = λ j f past there. elim (bytes_back w w' k h j f there) [
            | inl g ↦ subst (Fresh K) g.2 (kept.fresh j g.0 past g.1)
            | inr c ↦ fresh_other K f.bytes (All-contains (λ z. IsReply z.bytes) h.more f h.replies c).no_resume
          ];
          later = λ j f p. elim (still_pending w w' k h j f p) [
            | inl a ↦ kept.later j f a.0
            | inr b ↦ omega (arith, kept.most, b.0)
          ];
        }

    -- after a turn
    pending_before : (sent more : List Flight) (j : ℕ) (f : Flight) → IsPending (sent ++ more) j f → slice_get sent (j - 1) ≡ Some f → IsPending sent j f
    pending_before sent more j f p there =
        let parts = kept_is (length (sent ++ more)) j p.kept in
        record {
          there = there;
          kept = kept_when (length sent) j parts.0 (omega (arith, parts.0, slice_get_within sent (j - 1) f there)) (omega (arith, parts.2, length-append sent more));
          found = p.found;
          fresh = p.fresh;
        }

    turn_kept : (w w' : World) (e : WorldEvent) (m' : Machine) → Stands w' m' → Turns K w w' → Kept w → Kept w'
    turn_kept w w' e m' stands t kept = record {
      base = base_on _ w w' kept.base t.goes m' stands;
      most = omega (arith, kept.most, ap length t.sent, length-append w.sent t.more);
      fresh = λ j f past there. elim (get_append_cases w.sent t.more j f (subst (λ fs. slice_get fs j ≡ Some f) t.sent there)) [
        | inl a ↦ kept.fresh j f past a
        | inr b ↦ All-contains (λ z. Fresh K z.bytes) t.more f t.fresh b.1
      ];
      later = λ j f p. later_by j f (subst (λ fs. IsPending fs j f) t.sent p);
    }
      where
        later_by : (j : ℕ) (f : Flight) → IsPending (w.sent ++ t.more) j f → n0 < j
        later_by j f p = elim (get_append_cases w.sent t.more (j - 1) f p.there) [
          | inl a ↦ kept.later j f (pending_before w.sent t.more j f p a)
          | inr b ↦ omega (arith, kept.most, b.0, (kept_is (length (w.sent ++ t.more)) j p.kept).0)
        ]

    -- ---- the weight of a settling

    abbrev pub end_weight : Settling → ObjName → ℕ
    end_weight s o = link_weight (K (N o)) (last_wait s o) (at_end s.world o).link

    abbrev pub total : Settling → ℕ
    total s = sum_by (end_weight s) os

    -- it is no more than T, and less where something changed or was stepped
    pub record Going (T : ℕ) (s : Settling) : Type 0 where
      pub kept : Kept s.world
      pub most : total s ≤ T
      pub changed : s.changed ≡ true → total s < T
      pub stepped : s.stepped ≡ true → total s < T

    -- the names of the notes
    same_itself : (o : ObjName) → same_object o o ≡ true
    same_itself o = rw (same_name o.context, same_name o.name) refl

    same_tells : (a b : ObjName) → same_object a b ≡ true → a ≡ b
    same_tells a b h = by_tests (bytes_eq a.context b.context) (bytes_eq a.name b.name) refl refl h
      where
        equal : (x y : List ℕ) → bytes_eq x y ≡ true → x ≡ y
        equal x y t = elim (name_tells x y) [ inl e ↦ e.1 | inr ne ↦ absurd (cc (t, ne.0)) ]

        by_tests : (x y : Bool) → bytes_eq a.context b.context ≡ x → bytes_eq a.name b.name ≡ y → (x && y) ≡ true → a ≡ b
        by_tests true true s t g = λ i. record { context = equal a.context b.context s i; name = equal a.name b.name t i }
        by_tests true false s t g = absurd (cc)
        by_tests false y s t g = absurd (cc)

    module _ (T : ℕ) where
      -- one step of the world
      module _ (s : Settling) (e : WorldEvent) (P : Type 0) (p : P) (going : Going T s) (go : AllGoOn K P s.world (world_step s.world e).world) (kept' : Kept (world_step s.world e).world) where
        abbrev w' : World
        w' = (world_step s.world e).world

        link_on : (o : ObjName) → LinkGoesOn (K (N o)) P (at_end s.world o).link (at_end w' o).link
        link_on o = subst (λ n. LinkGoesOn (K n) P (at_end s.world o).link (at_end w' o).link) (going.kept.base.number o) (go.links o)

        -- the weight where the notes stay
        abbrev now : ObjName → ℕ
        now o = link_weight (K (N o)) (last_wait s o) (at_end w' o).link

        now_most : (o : ObjName) → now o ≤ end_weight s o
        now_most o = link_no_more (K (N o)) P p (last_wait s o) _ _ (link_on o)

        listed_before : marks s.world ≡ map (λ o. mark_of (at_end s.world o).link) os
        listed_before = marks_listed s.world going.kept.base.machine going.kept.base.stands ∙ ap (map (λ o. mark_of (at_end s.world o).link)) going.kept.base.names

        listed_now : marks w' ≡ map (λ o. mark_of (at_end w' o).link) os
        listed_now = marks_listed w' kept'.base.machine kept'.base.stands ∙ ap (map (λ o. mark_of (at_end w' o).link)) kept'.base.names

        changed_less : same_marks (marks s.world) (marks w') ≡ false → sum_by now os < total s
        changed_less d =
            sum_marked now (end_weight s) (λ o. mark_of (at_end s.world o).link) (λ o. mark_of (at_end w' o).link) os now_most
            (λ o h. link_less (K (N o)) P p (last_wait s o) _ _ (link_on o) h)
            ((λ i. same_marks (sym listed_before i) (sym listed_now i)) ∙ d)

        step_going : Going T (settle_step s e)
        unfolding settle_step stepped_to last_wait
        step_going = record {
          kept = kept';
          most = omega (arith, sum_most now (end_weight s) os now_most, going.most);
          changed = λ c. by_changed s.changed (same_marks (marks s.world) (marks w')) refl refl c;
          stepped = λ c. omega (arith, sum_most now (end_weight s) os now_most, going.stepped c);
        }
          where
            by_changed : (b c : Bool) → s.changed ≡ b → same_marks (marks s.world) (marks w') ≡ c → (b || not c) ≡ true → sum_by now os < T
            by_changed true c h k t = omega (arith, sum_most now (end_weight s) os now_most, going.changed h)
            by_changed false false h k t = omega (arith, changed_less k, going.most)
            by_changed false true h k t = absurd (cc)

        -- an expiry of o, which is lighter
        expired_going : (o : ObjName) → Contains os o → now o < end_weight s o → Going T (has_stepped (settle_step s e))
        unfolding settle_step stepped_to last_wait
        expired_going o there less =
            let l : sum_by now os < total s = sum_less now (end_weight s) os o now_most there less in
            record { kept = kept'; most = omega (arith, l, going.most); changed = λ c. omega (arith, l, going.most); stepped = λ c. omega (arith, l, going.most) }

        -- a step of o's timer, which is lighter by its note
        module _ (o : ObjName) (l : Link) (note_less : link_weight (K (N o)) (Some (record { end = o; una = l.sender.una; partner_ended = partner_ended s.world l })) (at_end w' o).link < end_weight s o) where
          abbrev u : Settling
          u = noting s o l (settle_step s e)

          noted : (k : ObjName) (b : Bool) → same_object k o ≡ b → link_weight (K (N k)) (if b then Some (record { end = o; una = l.sender.una; partner_ended = partner_ended s.world l }) else last_wait s k) (at_end w' k).link ≤ end_weight s k
          noted k false h = now_most k
          noted k true h = subst (λ j. link_weight (K (N j)) (Some (record { end = o; una = l.sender.una; partner_ended = partner_ended s.world l })) (at_end w' j).link ≤ end_weight s j) (sym (same_tells k o h)) (omega (arith, note_less))

          all_noted : (k : ObjName) → end_weight u k ≤ end_weight s k
          unfolding settle_step stepped_to last_wait first_that
          all_noted k = noted k (same_object k o) refl

          this_noted : end_weight u o < end_weight s o
          unfolding settle_step stepped_to last_wait first_that
          this_noted = noted_by (same_object o o) (same_itself o)
            where
              noted_by : (b : Bool) → b ≡ true → link_weight (K (N o)) (if b then Some (record { end = o; una = l.sender.una; partner_ended = partner_ended s.world l }) else last_wait s o) (at_end w' o).link < end_weight s o
              noted_by true t = note_less
              noted_by false t = absurd (cc)

          noted_going : Contains os o → Going T u
          unfolding settle_step stepped_to
          noted_going there =
              let less : total u < total s = sum_less (end_weight u) (end_weight s) os o all_noted there this_noted in
              record { kept = kept'; most = omega (arith, less, going.most); changed = λ c. omega (arith, less, going.most); stepped = λ c. omega (arith, less, going.most) }

      -- ---- draining and sending

      if_going : (b : Bool) (s t : Settling) → Going T s → Going T t → Going T (if b then s else t)
      if_going true s t h k = h
      if_going false s t h k = k

      deliver_going : (s : Settling) (k : ℕ) → n0 < k → Going T s → Going T (settle_step s (world_events.Deliver k))
      deliver_going s k above going =
          let b = going.kept.base in
          step_going s (world_events.Deliver k) (News lightens K s.world b.machine k b.stands) (λ f there. going.kept.fresh (k - 1) f (omega (arith, above)) there) going
          (delivered_go lightens K s.world b.machine k b.stands) (deliver_kept s.world k above going.kept)

      delivering_going : (ks : List ℕ) (s : Settling) → ((k : ℕ) → Contains ks k → n0 < k) → Going T s → Going T (delivering s ks)
      unfolding delivering
      delivering_going [] s above going = going
      delivering_going (k ∷ ks) s above going = delivering_going ks (settle_step s (world_events.Deliver k)) (λ j c. above j (contains_later j k ks c)) (deliver_going s k (above k (contains_here k ks)) going)

      pass_going : (s : Settling) → Going T s → Going T (pass s)
      pass_going s going = delivering_going (pending_numbers s.world.sent) s (λ k c. let p = numbers_pend s.world.sent k c in going.kept.later k p.0 p.1) going

      pub drained_going : (s : Settling) → Going T s → Going T (drained s)
      unfolding drained
      drained_going s going = pass_going (pass (pass s)) (pass_going (pass s) (pass_going s going))

      transmit_going : (s : Settling) (o : ObjName) → Going T s → Going T (settle_step s (transmit o))
      transmit_going s o going =
          let b = going.kept.base in
          let t : Turns K s.world (world_step s.world (transmit o)).world = transmit_turns K s.world b.machine o b.stands (b.own o) in
          let f : Follows s.world b.machine (transmit o) = follows (transmit o) s.world b.machine tt b.stands in
          step_going s (transmit o) (Unit {0}) tt going t.goes (turn_kept s.world (world_step s.world (transmit o)).world (transmit o) (after b.machine f.steps) f.stands t going.kept)

      sending_by : (b : Bool) (s t : Settling) → Going T s → Going T t → Going T (elim b as (λ x. Settling) [ true ↦ s | false ↦ t ])
      sending_by true s t h k = h
      sending_by false s t h k = k

      sending_going : (fuel : ℕ) (s : Settling) (o : ObjName) → Going T s → Going T (sending_all fuel s o)
      unfolding sending_all
      sending_going zero s o h = h
      sending_going (suc fuel) s o h =
          sending_by (is_sent (world_step s.world (transmit o)).answer) (sending_all fuel (drained (settle_step s (transmit o))) o) s
          (sending_going fuel (drained (settle_step s (transmit o))) o (drained_going _ (transmit_going s o h))) h

      running_going : (s : Settling) (o : ObjName) → Going T s → Going T (sends_if_running s o)
      unfolding sends_if_running sends_all
      running_going s o h = if_going (is_running (link_at s.world o)) _ s (sending_going (sending_fuel (link_at s.world o)) s o h) h

      visited_going : (s : Settling) (o : ObjName) → Going T s → Going T (visited s o)
      unfolding visited
      visited_going s o h = if_going (is_resuming_link (link_at s.world o)) _ _ (running_going (drained (settle_step s (transmit o))) o (drained_going _ (transmit_going s o h))) (running_going s o h)

      visiting_going : (visit : Settling → ObjName → Settling) → ((s : Settling) (o : ObjName) → Contains os o → Going T s → Going T (visit s o)) → (ns : List ObjName) (s : Settling) → All (Contains os) ns → Going T s → Going T (visiting visit s ns)
      unfolding visiting
      visiting_going visit each [] s all h = h
      visiting_going visit each (o ∷ ns) s all h = visiting_going visit each ns (visit s o) (All-tail (Contains os) o ns all) (each s o (All-head (Contains os) o ns all) h)

      -- ---- timers

      linked_at : (s : Settling) (o : ObjName) (l : Link) → link_at s.world o ≡ Some l → (at_end s.world o).link ≡ Some l
      linked_at s o l h = sym (link_is s.world o) ∙ h

      same_number : (s : Settling) (o : ObjName) → Going T s → (end_at (context_at (home s.world o.context) o.context) o.name).number ≡ N o
      unfolding live_context
      same_number s o going = ap (λ e. e.number) (end_is s.world o) ∙ going.kept.base.number o

      rnr_step : (s : Settling) (o : ObjName) (l : Link) → link_at s.world o ≡ Some l → Contains os o → l.sender.rnr_wait ≡ true → may_step s.world l (last_wait s o) ≡ true → Going T s → Going T (noting s o l (settle_step s (world_events.At (events.RnrOver o))))
      rnr_step s o l h there wait may going =
          let e : WorldEvent = world_events.At (events.RnrOver o) in
          let b = going.kept.base in
          let at : (at_end s.world o).link ≡ Some l = linked_at s o l h in
          let t = rnr_over_falls K s.world b.machine o b.stands l (live_end s.world b.machine o l b.stands at) wait in
          let f : Follows s.world b.machine e = follows e s.world b.machine tt b.stands in
          let kept' : Kept (world_step s.world e).world = turn_kept s.world (world_step s.world e).world e (after b.machine f.steps) f.stands t.turns going.kept in
          let note : Option Waited = Some (record { end = o; una = l.sender.una; partner_ended = partner_ended s.world l }) in
          let less : weight (K (N o)) note t.after < weight (K (N o)) (last_wait s o) l = subst (λ n. weight (K n) note t.after < weight (K n) (last_wait s o) l) (same_number s o going) (t.lighter s.world o (last_wait s o) may) in
          let less' : link_weight (K (N o)) note (at_end (world_step s.world e).world o).link < end_weight s o =
          subst (λ z. link_weight (K (N o)) note z < end_weight s o) (sym t.linked) (subst (λ z. weight (K (N o)) note t.after < link_weight (K (N o)) (last_wait s o) z) (sym at) less) in
          noted_going s e (Unit {0}) tt going t.turns.goes kept' o l less' there

      both_parts : (a b : Bool) → (a && b) ≡ true → (a ≡ true) × (b ≡ true)
      both_parts true true h = (refl, refl)
      both_parts true false h = absurd (cc)
      both_parts false b h = absurd (cc)

      test_going : (b : Bool) (s t : Settling) → (b ≡ true → Going T s) → Going T t → Going T (if b then s else t)
      test_going true s t h k = h refl
      test_going false s t h k = k

      rnr_going : (s : Settling) (o : ObjName) (l : Option Link) → link_at s.world o ≡ l → Contains os o → Going T s → Going T (rnr_by s o l)
      rnr_going s o None h there going = going
      rnr_going s o (Some l) h there going =
          test_going (l.sender.rnr_wait && may_step s.world l (last_wait s o)) (noting s o l (settle_step s (world_events.At (events.RnrOver o)))) s
          (λ t. let p = both_parts _ _ t in rnr_step s o l h there p.0 p.1 going) going

      rnr_visit_going : (s : Settling) (o : ObjName) → Contains os o → Going T s → Going T (rnr_visit s o)
      unfolding rnr_visit
      rnr_visit_going s o there going = rnr_going s o (link_at s.world o) refl there going

      -- an expiry that counts
      counting : (l : Link) → (is_running (Some l) && (not l.sender.rnr_wait && nat_lt l.sender.una l.sender.next)) ≡ true → (l.ended ≡ false) × (not_counted l ≡ None)
      unfolding not_counted
      counting l h = by_tests l.ended (is_paused l.moving.phase) (is_resuming l.moving.phase) l.sender.rnr_wait (nat_lt l.sender.una l.sender.next) (l.sender.next == l.sender.una) (λ k. apart l.sender.una l.sender.next k) h
        where
          apart : (a b : ℕ) → nat_lt a b ≡ true → (b == a) ≡ false
          apart a b k = grind (arith, nat_tests, k, eqb_tells b a)

          by_tests : (a b c d e f : Bool) → (e ≡ true → f ≡ false) → ((not a && (not b && not c)) && (not d && e)) ≡ true → (a ≡ false) × ((if a then Some not_why.Ended else if b then Some not_why.Paused else if c then Some not_why.Resuming else if d then Some not_why.Rnr else if f then Some not_why.Nothing else None) ≡ None)
          by_tests true b c d e f k t = absurd (cc)
          by_tests false true c d e f k t = absurd (cc)
          by_tests false false true d e f k t = absurd (cc)
          by_tests false false false true e f k t = absurd (cc)
          by_tests false false false false false f k t = absurd (cc)
          by_tests false false false false true true k t = absurd (cc (k refl))
          by_tests false false false false true false k t = (refl, refl)

      expire_step : (s : Settling) (o : ObjName) (l : Link) → link_at s.world o ≡ Some l → Contains os o → l.ended ≡ false → not_counted l ≡ None → Going T s → Going T (has_stepped (settle_step s (world_events.At (events.Expire o))))
      expire_step s o l h there alive none going =
          let e : WorldEvent = world_events.At (events.Expire o) in
          let b = going.kept.base in
          let at : (at_end s.world o).link ≡ Some l = linked_at s o l h in
          let t = expire_fell K s.world b.machine o b.stands l (live_end s.world b.machine o l b.stands at) alive (b.few o l at alive) none in
          let f : Follows s.world b.machine e = follows e s.world b.machine tt b.stands in
          let kept' : Kept (world_step s.world e).world = turn_kept s.world (world_step s.world e).world e (after b.machine f.steps) f.stands t.turns going.kept in
          let x : Option Waited = last_wait s o in
          let less : weight (K (N o)) x t.after < weight (K (N o)) x l = subst (λ n. weight (K n) x t.after < weight (K n) x l) (same_number s o going) (t.lighter x) in
          let less' : link_weight (K (N o)) x (at_end (world_step s.world e).world o).link < end_weight s o =
          subst (λ z. link_weight (K (N o)) x z < end_weight s o) (sym t.linked) (subst (λ z. weight (K (N o)) x t.after < link_weight (K (N o)) x z) (sym at) less) in
          expired_going s e (Unit {0}) tt going t.turns.goes kept' o there less'

      expire_going : (s : Settling) (o : ObjName) (l : Option Link) → link_at s.world o ≡ l → Contains os o → Going T s → Going T (expire_by s o l)
      expire_going s o None h there going = going
      expire_going s o (Some l) h there going =
          test_going (is_running (Some l) && (not l.sender.rnr_wait && nat_lt l.sender.una l.sender.next)) (has_stepped (settle_step s (world_events.At (events.Expire o)))) s
          (λ t. let p = counting l t in expire_step s o l h there p.0 p.1 going) going

      expire_visit_going : (s : Settling) (o : ObjName) → Contains os o → Going T s → Going T (expire_visit s o)
      unfolding expire_visit
      expire_visit_going s o there going = expire_going s o (link_at s.world o) refl there going

      timers_going : (s : Settling) (ns : List ObjName) → All (Contains os) ns → Going T s → Going T (timers s ns)
      unfolding timers
      timers_going s ns all h =
          let t : Settling = visiting rnr_visit s ns in
          let k : Going T t = visiting_going rnr_visit rnr_visit_going ns s all h in
          if_going t.stepped t (visiting expire_visit t ns) k (visiting_going expire_visit expire_visit_going ns t all k)

      -- ---- a round

      -- the visits of a round
      pub visits_going : (s : Settling) (ns : List ObjName) → All (Contains os) ns → Going T s → Going T (visiting visited s ns)
      visits_going s ns all h = visiting_going visited (λ z o c g. visited_going z o g) ns s all h

      -- what follows the first drain
      pub rest_going : (s : Settling) (ns : List ObjName) → All (Contains os) ns → Going T s → Going T (timers_if_still (visiting visited s ns) ns)
      rest_going s ns all h =
          let t : Settling = visiting visited s ns in
          let k : Going T t = visits_going s ns all h in
          if_going t.changed t (timers t ns) k (timers_going t ns all k)

      pub all_there : (ns : List ObjName) → ns ≡ os → All (Contains os) ns
      all_there ns h = subst (All (Contains os)) (sym h) (All-contains_itself os)

      pub round_going : (s : Settling) → Going T s → Going T (round s)
      unfolding round
      round_going s h = rest_going (drained s) (live_names s.world) (all_there (live_names s.world) h.kept.base.names) (drained_going s h)
