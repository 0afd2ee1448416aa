-- In a round where nothing changes, each end that was visited and runs has nothing to send at the end of the round.
use Rattle.std.proofs.Common.{arith, ◌≡◌, ◌≢◌, ℕ, zero, suc, List, [], ◌∷◌, true, false, Bool, refl, sym, ap, ◌∙◌, subst, inl, inr}
use Rattle.std.specs.Prelude.{Contains, Option, Some, None, not, if◌then◌else◌, ◌&&◌}
use Rattle.rdma_types.specs.declared.names.ObjName.{ObjName}
use Rattle.rdma_types.specs.Spans.{Piece}
use Rattle.protocol.specs.declared.events.WorldEvent.{WorldEvent}
use Rattle.protocol.specs.DeviceStep as device
use Rattle.protocol.specs.EndWords.{is_resuming, is_resuming_link, is_running}
use Rattle.protocol.specs.Fabric.{pending}
use Rattle.protocol.specs.Requester.{Sends, transmission}
use Rattle.protocol.specs.State.{World, Link, context_at, end_at}
use Rattle.protocol.specs.WorldStep as step
use Rattle.protocol.specs.WorldStep.{home, ran, world_step}
use Rattle.protocol.specs.Settle.{Settling, drained, is_sent, link_at, sending_all, sending_fuel, sends_all, sends_if_running, settle_step, transmit, visited, visiting}
use Rattle.packetless_machine.specs.Machine.{Machine}
use Rattle.law_simulation.specs.Law.{AlwaysFollows}
use Rattle.law_simulation.specs.Stands.{Stands}
use Rattle.law_simulation.proofs.relation.Grows.{object_or_not}
use Rattle.law_settling.specs.Drained.{DrainingDrains}
use Rattle.law_settling.proofs.draining.Pending.{contains_cases}
use Rattle.law_settling.specs.Weights.{TakingLightens}
use Rattle.law_settling.proofs.bound.Lives.{at_end, link_is}
use Rattle.law_settling.proofs.bound.Turns.{live_end}
use Rattle.law_settling.specs.Spares.{SendingSpares}
use Rattle.law_settling.specs.Stops.{SendingStops}
use Rattle.law_settling.proofs.sending_stops.Transmitting.{transmit_is}
use Rattle.law_settling.proofs.at_rest.Resting.{visited_calm}
use Rattle.law_settling.proofs.completes.Hearing.{announced_kept}
use Rattle.law_settling.proofs.completes.Keeping.{IsKept, IsStopped, kept_on, kept_same, runs_is, sent_kept, still_running, stopped_on}
use Rattle.law_settling.proofs.completes.Still.{Followed, IsStill, IsStillLink, Runs, running_runs, sending_runs, sent_runs, visited_runs, visits_run}

-- ---- one end

-- an end that runs still, ran before
running_same : (a b : Option Link) → IsStillLink a b → is_running b ≡ is_running a
running_same None None h = refl
running_same (Some l) (Some l') h = still_running l l' h
running_same None (Some l) h = absurd h
running_same (Some l) None h = absurd h

ran_before : (w w' : World) (o : ObjName) → IsStill w w' → is_running (link_at w' o) ≡ is_running (link_at w o)
ran_before w w' o still = ap is_running (link_is w' o) ∙ (running_same (at_end w o).link (at_end w' o).link (still o) ∙ ap is_running (sym (link_is w o)))

-- a piece that is next is sent
piece_sent : (w : World) (m : Machine) (o : ObjName) (l : Link) (x : Piece) → Stands w m → (at_end w o).link ≡ Some l → transmission l ≡ Sends x → is_sent (world_step w (transmit o)).answer ≡ true
unfolding ran step.numbered device.sends_piece
piece_sent w m o l x s at row =
    ap (λ z. is_sent z.answer) (transmit_is w m o l (live_end w m o l s at))
    ∙ ap (λ t. is_sent (ran w (device.sends_by (home w o.context) (context_at (home w o.context) o.context) (end_at (context_at (home w o.context) o.context) o.name) l t)).answer) row

resuming_parts : (l : Link) → is_resuming_link (Some l) ≡ true → (l.ended ≡ false) × (is_resuming l.moving.phase ≡ true)
resuming_parts l h = by_tests l.ended (is_resuming l.moving.phase) h
  where
    by_tests : (a b : Bool) → (not a && b) ≡ true → (a ≡ false) × (b ≡ true)
    by_tests false true t = (refl, refl)
    by_tests false false t = absurd (cc)
    by_tests true b t = absurd (cc)

-- an end does not run and resume
not_both : (r : Option Link) → is_running r ≡ true → is_resuming_link r ≡ true → ⊥
not_both None h k = cc
not_both (Some l) h k = cc ((runs_is l h).2, (resuming_parts l k).1)

-- an end transmits, and what comes of it is drained
abbrev after_it : Settling → ObjName → Settling
after_it s o = drained (settle_step s (transmit o))

module _ (drains : DrainingDrains) (lightens : TakingLightens) (follows : (e : WorldEvent) → AlwaysFollows e) (stops : SendingStops) (spares : SendingSpares) where
  -- ---- what a visit leaves of other ends

  module _ (o z : ObjName) (ne : z ≢ o) where
    sending_kept : (fuel : ℕ) (s : Settling) → Followed s.world → pending s.world.sent ≡ None → is_running (link_at s.world o) ≡ true → (sending_all fuel s o).changed ≡ false → IsKept z s.world (sending_all fuel s o).world
    unfolding sending_all
    sending_kept zero s f calm running same = kept_same z s.world
    sending_kept (suc fuel) s f calm running same = by_test (is_sent (world_step s.world (transmit o)).answer) refl same (sending_kept fuel (after_it s o))
      where
        by_test : (b : Bool) → is_sent (world_step s.world (transmit o)).answer ≡ b → (elim b as (λ x. Settling) [ true ↦ sending_all fuel (after_it s o) o | false ↦ s ]).changed ≡ false →
            (Followed (after_it s o).world → pending (after_it s o).world.sent ≡ None → is_running (link_at (after_it s o).world o) ≡ true → (sending_all fuel (after_it s o) o).changed ≡ false → IsKept z (after_it s o).world (sending_all fuel (after_it s o) o).world) →
            IsKept z s.world (elim b as (λ x. Settling) [ true ↦ sending_all fuel (after_it s o) o | false ↦ s ]).world
        by_test false sent same' later = kept_same z s.world
        by_test true sent same' later =
            let one : Runs s (after_it s o) = sent_runs lightens follows s o f in
            let until : (after_it s o).changed ≡ false = ((sending_runs lightens follows fuel (after_it s o) o one.followed).still same').0 in
            kept_on z s.world (after_it s o).world (sending_all fuel (after_it s o) o).world
            (sent_kept lightens follows spares s f.0 f.1 calm o running sent until z ne)
            (later one.followed (drains (settle_step s (transmit o))) (ran_before s.world (after_it s o).world o (one.still until).1 ∙ running) same')

    running_kept : (s : Settling) → Followed s.world → pending s.world.sent ≡ None → (sends_if_running s o).changed ≡ false → IsKept z s.world (sends_if_running s o).world
    unfolding sends_if_running sends_all
    running_kept s f calm same = by_test (is_running (link_at s.world o)) refl same
      where
        by_test : (b : Bool) → is_running (link_at s.world o) ≡ b → (if b then sending_all (sending_fuel (link_at s.world o)) s o else s).changed ≡ false → IsKept z s.world (if b then sending_all (sending_fuel (link_at s.world o)) s o else s).world
        by_test true running same' = sending_kept (sending_fuel (link_at s.world o)) s f calm running same'
        by_test false running same' = kept_same z s.world

    announcing_kept : (s : Settling) → Followed s.world → pending s.world.sent ≡ None → (r : Option Link) → (at_end s.world o).link ≡ r → is_resuming_link r ≡ true → (drained (settle_step s (transmit o))).changed ≡ false → IsKept z s.world (drained (settle_step s (transmit o))).world
    announcing_kept s f calm None at resuming same = absurd (cc)
    announcing_kept s f calm (Some l) at resuming same = let parts = resuming_parts l resuming in announced_kept lightens follows s f.0 o l f.1 at parts.0 parts.1 calm same z

    visited_kept : (s : Settling) → Followed s.world → pending s.world.sent ≡ None → (visited s o).changed ≡ false → IsKept z s.world (visited s o).world
    unfolding visited
    visited_kept s f calm same = by_test (is_resuming_link (link_at s.world o)) refl same
      where
        by_test : (b : Bool) → is_resuming_link (link_at s.world o) ≡ b → (if b then sends_if_running (drained (settle_step s (transmit o))) o else sends_if_running s o).changed ≡ false → IsKept z s.world (if b then sends_if_running (drained (settle_step s (transmit o))) o else sends_if_running s o).world
        by_test false resuming same' = running_kept s f calm same'
        by_test true resuming same' =
            let one : Runs s (after_it s o) = sent_runs lightens follows s o f in
            let until : (after_it s o).changed ≡ false = ((running_runs lightens follows (after_it s o) o one.followed).still same').0 in
            kept_on z s.world (after_it s o).world (sends_if_running (after_it s o) o).world
            (announcing_kept s f calm (at_end s.world o).link refl (ap is_resuming_link (sym (link_is s.world o)) ∙ resuming) until)
            (running_kept (after_it s o) one.followed (drains (settle_step s (transmit o))) same')

  -- ---- what it leaves of the end itself

  visit_sends : (s : Settling) (o : ObjName) → is_resuming_link (link_at s.world o) ≡ false → is_running (link_at s.world o) ≡ true → visited s o ≡ sends_all s o
  unfolding visited sends_if_running
  visit_sends s o resuming running =
      ap (λ b. if b then sends_if_running (drained (settle_step s (transmit o))) o else sends_if_running s o) resuming
      ∙ ap (λ b. if b then sends_all s o else s) running

  not_resuming : (r : Option Link) → is_running r ≡ true → is_resuming_link r ≡ false
  not_resuming r h = by_test (is_resuming_link r) refl
    where
      by_test : (b : Bool) → is_resuming_link r ≡ b → is_resuming_link r ≡ false
      by_test false t = t
      by_test true t = absurd (not_both r h t)

  visited_stopped : (s : Settling) (o : ObjName) → Followed s.world → pending s.world.sent ≡ None → (visited s o).changed ≡ false → IsStopped o (visited s o).world
  visited_stopped s o f calm same l at running x row =
      let visit : Runs s (visited s o) = visited_runs lightens follows s o f in
      let w' : World = (visited s o).world in
      let before : is_running (link_at s.world o) ≡ true = sym (ran_before s.world w' o (visit.still same).1) ∙ (ap is_running (link_is w' o ∙ at) ∙ running) in
      let is : visited s o ≡ sends_all s o = visit_sends s o (not_resuming (link_at s.world o) before) before in
      let none : is_sent (world_step w' (transmit o)).answer ≡ false = ap (λ t. is_sent (world_step t.world (transmit o)).answer) is ∙ stops s f.0 o f.1 calm before in
      cc (none, piece_sent w' visit.followed.0 o l x visit.followed.1 at row)

  -- ---- all ends

  -- an end that has nothing to send has nothing to send later
  stays_stopped : (z : ObjName) (os : List ObjName) (s : Settling) → Followed s.world → pending s.world.sent ≡ None → (visiting visited s os).changed ≡ false → IsStopped z s.world → IsStopped z (visiting visited s os).world
  unfolding visiting
  stays_stopped z [] s f calm same stopped = stopped
  stays_stopped z (o ∷ os) s f calm same stopped =
      let one : Runs s (visited s o) = visited_runs lightens follows s o f in
      let until : (visited s o).changed ≡ false = ((visits_run lightens follows os (visited s o) one.followed).still same).0 in
      let now : IsStopped z (visited s o).world =
      elim (object_or_not z o) [
        | inl e ↦ subst (λ k. IsStopped k (visited s o).world) (sym e) (visited_stopped s o f calm until)
        | inr ne ↦ stopped_on z s.world (visited s o).world stopped (visited_kept o z ne s f calm until)
      ] in
      stays_stopped z os (visited s o) one.followed (visited_calm drains s o calm) same now

  pub each_stopped : (z : ObjName) (os : List ObjName) (s : Settling) → Followed s.world → pending s.world.sent ≡ None → (visiting visited s os).changed ≡ false → Contains os z → IsStopped z (visiting visited s os).world
  unfolding visiting
  each_stopped z [] s f calm same there = absurd (omega (arith, there.1))
  each_stopped z (o ∷ os) s f calm same there =
      let one : Runs s (visited s o) = visited_runs lightens follows s o f in
      let until : (visited s o).changed ≡ false = ((visits_run lightens follows os (visited s o) one.followed).still same).0 in
      let calm' : pending (visited s o).world.sent ≡ None = visited_calm drains s o calm in
      elim (contains_cases z o os there) [
        | inl e ↦ stays_stopped z os (visited s o) one.followed calm' same (subst (λ k. IsStopped k (visited s o).world) e (visited_stopped s o f calm until))
        | inr later ↦ each_stopped z os (visited s o) one.followed calm' same later
      ]
