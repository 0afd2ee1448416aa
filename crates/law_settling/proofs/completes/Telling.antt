-- After settling an end that runs and does not wait has no untold request.
use Rattle.std.proofs.Common.{◌≡◌, true, false, Bool, refl, sym, ap, ◌∙◌, subst, inl, inr}
use Rattle.std.specs.Prelude.{Contains, Some, if◌then◌else◌, ◌||◌}
use Rattle.rdma_types.specs.declared.names.ObjName.{ObjName}
use Rattle.protocol.specs.declared.events.WorldEvent.{WorldEvent}
use Rattle.protocol.specs.EndWords.{is_running}
use Rattle.protocol.specs.State.{World, Link}
use Rattle.protocol.specs.WorldStep.{world_step}
use Rattle.protocol.specs.Settle.{Settling, drained, is_sent, link_at, live_names, round, settled, timers, transmit}
use Rattle.packetless_machine.specs.Machine.{Machine}
use Rattle.law_simulation.specs.Law.{AlwaysFollows}
use Rattle.law_simulation.specs.Stands.{Stands}
use Rattle.law_settling.specs.Drained.{DrainingDrains}
use Rattle.law_settling.specs.Weights.{TakingLightens}
use Rattle.law_settling.specs.Ends.{Ends, SettlingEnds, after_rounds, is_moving, started}
use Rattle.law_settling.proofs.bound.Lives.{at_end, link_is}
use Rattle.law_settling.proofs.bound.Rounds.{names_stay}
use Rattle.law_settling.proofs.bound.Turns.{live_end}
use Rattle.law_settling.specs.Spares.{SendingSpares}
use Rattle.law_settling.specs.Stops.{SendingStops}
use Rattle.law_settling.specs.Told.{StoppedIsTold}
use Rattle.law_settling.proofs.sending_stops.Transmitting.{resumes_needs, sent_row}
use Rattle.law_settling.specs.Rests.{SettlingRests}
use Rattle.law_settling.proofs.at_rest.Resting.{IsLast, last_round, live_named, visits}
use Rattle.law_settling.specs.Tells.{SettlingTells}
use Rattle.law_settling.proofs.completes.Keeping.{IsStopped, runs_is}
use Rattle.law_settling.proofs.completes.Still.{Followed, drained_runs, rounds_followed, visits_run}
use Rattle.law_settling.proofs.completes.Visits.{each_stopped}

-- nothing changed in the visits of a round in which nothing changed
still_visits : (s : Settling) → is_moving (round s) ≡ false → (visits s).changed ≡ false
unfolding round
still_visits s h = by_changed (visits s).changed refl h
  where
    first_false : (a b : Bool) → (a || b) ≡ false → a ≡ false
    first_false false b g = refl
    first_false true b g = absurd (cc)

    by_changed : (b : Bool) → (visits s).changed ≡ b → is_moving (if b then visits s else timers (visits s) (live_names s.world)) ≡ false → (visits s).changed ≡ false
    by_changed false t g = t
    by_changed true t g = first_false (visits s).changed (visits s).stepped g

-- an end that has nothing to send now does not send
stopped_sends : (w : World) (m : Machine) (o : ObjName) (l : Link) → Stands w m → (at_end w o).link ≡ Some l → is_running (Some l) ≡ true → IsStopped o w → is_sent (world_step w (transmit o)).answer ≡ false
stopped_sends w m o l s at running stopped = by_test (is_sent (world_step w (transmit o)).answer) refl
  where
    by_test : (b : Bool) → is_sent (world_step w (transmit o)).answer ≡ b → is_sent (world_step w (transmit o)).answer ≡ false
    by_test false t = t
    by_test true t = elim (sent_row w m o l (live_end w m o l s at) t) [
      | inl resume ↦ absurd (cc (resumes_needs l resume, (runs_is l running).2))
      | inr piece ↦ absurd (stopped l at running piece.0 piece.1)
    ]

pub tells : TakingLightens → ((e : WorldEvent) → AlwaysFollows e) → DrainingDrains → SettlingEnds → SettlingRests → SendingStops → SendingSpares → StoppedIsTold → SettlingTells
tells lightens follows drains ends rests stops spares told w m s o l at running wait =
    let e : Ends w = ends w m s in
    let t : Settling = after_rounds e.n (started w) in
    let last : IsLast t = last_round t e.still in
    let v : World = (visits t).world in
    let is : (settled w).world ≡ v = ap (λ z. z.world) e.settled ∙ last.same in
    let before : Followed (drained t).world = (drained_runs lightens follows t (rounds_followed lightens follows e.n (started w) (m, s))).followed in
    let after : Followed v = (visits_run lightens follows (live_names t.world) (drained t) before).followed in
    let linked : link_at v o ≡ Some l = ap (λ z. link_at z o) (sym is) ∙ at in
    let there : (at_end v o).link ≡ Some l = sym (link_is v o) ∙ linked in
    let named : Contains (live_names t.world) o = subst (λ ns. Contains ns o) (names_stay drains lightens follows w m s e.n) (live_named v o l there) in
    let stopped : IsStopped o v = each_stopped drains lightens follows stops spares o (live_names t.world) (drained t) before (drains t) (still_visits t e.still) named in
    told v after.0 o l after.1 linked running wait ((rests w m s).landed o l at running wait) (stopped_sends v after.0 o l after.1 there running stopped)
