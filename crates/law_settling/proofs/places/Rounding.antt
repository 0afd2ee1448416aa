-- A round visits the connected ends alone.
use Rattle.std.proofs.Common.{◌≡◌, List, [], ◌++◌, refl, sym, ap, ◌∙◌, subst}
use Rattle.std.specs.Prelude.{if◌then◌else◌}
use Rattle.rdma_types.specs.declared.names.ObjName.{ObjName}
use Rattle.protocol.specs.declared.events.WorldEvent.{WorldEvent}
use Rattle.protocol.specs.Settle.{Settling, drained, expire_visit, live_names, rnr_visit, round, timers, timers_if_still, visited, visiting}
use Rattle.protocol.specs.State.{World}
use Rattle.law_settling.specs.Events.{drain_events, expiry_events, rnr_events, round_events, timer_events, timer_events_if_still, visit_events, visiting_events}
use Rattle.law_settling.specs.Places.{AreOrderly, HaveOwnContexts, RoundsAreLinked, VisitsLinked, linked_names, outline}
use Rattle.law_settling.proofs.places.Outlines.{homes_same, keeps}
use Rattle.law_settling.proofs.places.Staying.{runs_keep}
use Rattle.law_settling.proofs.places.Visiting.{visits_linked}
use Rattle.law_settling.proofs.steps.Events.{Lead, drained_lead, rnr_lead, round_lead, visit_lead, visiting_lead}

module _ (w : World) (own : HaveOwnContexts w) where
  -- the settling's world is orderly, and has the ends of w
  record HasEnds (s : Settling) : Type 0 where
    orderly : AreOrderly s.world
    same : outline s.world ≡ outline w

  -- events of settling lead on to such a settling
  led : (s t : Settling) (es : List WorldEvent) → Lead s.world es t.world → HasEnds s → HasEnds t
  led s t es lead h =
      let kept = runs_keep s.world es lead.each h.orderly in
      record {
        orderly = subst AreOrderly lead.after kept.1;
        same = ap outline (sym lead.after) ∙ (kept.0.outlines ∙ h.same);
      }

  visits : (s : Settling) → HasEnds s → VisitsLinked w s
  visits s h = visits_linked w s h.orderly (homes_same w s.world h.same own) h.same

  abbrev all : List ObjName
  all = live_names w

  abbrev some : List ObjName
  some = linked_names w

  -- ---- timers

  waited : (s : Settling) → HasEnds s → HasEnds (visiting rnr_visit s all)
  waited s h = led s (visiting rnr_visit s all) (visiting_events rnr_visit rnr_events s all) (visiting_lead rnr_visit rnr_events rnr_lead all s) h

  timers_same : (s : Settling) → HasEnds s → timers s all ≡ timers s some
  unfolding timers
  timers_same s h =
      let u : Settling = visiting rnr_visit s all in
      let expiries = (visits u (waited s h)).expiries in
      (λ i. if u.stepped then u else expiries i)
      ∙ ap (λ (z : Settling). if z.stepped then z else visiting expire_visit z some) (visits s h).waits

  timer_events_same : (s : Settling) → HasEnds s → timer_events s all ≡ timer_events s some
  unfolding timer_events
  timer_events_same s h =
      let u : Settling = visiting rnr_visit s all in
      let expiries = (visits u (waited s h)).expiry_events in
      let later : expiry_events u all ≡ expiry_events (visiting rnr_visit s some) some =
      (λ i. if u.stepped then [] else expiries i) ∙ ap (λ (z : Settling). expiry_events z some) (visits s h).waits in
      λ i. (visits s h).wait_events i ++ later i

  -- ---- a round

  module _ (s : Settling) (h : HasEnds s) where
    abbrev d : Settling
    d = drained s

    abbrev t : Settling
    t = visiting visited d all

    drained_ends : HasEnds d
    drained_ends = led s d (drain_events s) (drained_lead s) h

    visited_ends : HasEnds t
    visited_ends = led d t (visiting_events visited visit_events d all) (visiting_lead visited visit_events visit_lead all d) drained_ends

    round_same : timers_if_still t all ≡ timers_if_still (visiting visited d some) some
    round_same =
        let later = timers_same t visited_ends in
        (λ i. if t.changed then t else later i) ∙ ap (λ z. timers_if_still z some) (visits d drained_ends).sends

    events_same : drain_events s ++ (visiting_events visited visit_events d all ++ timer_events_if_still t all) ≡ drain_events s ++ (visiting_events visited visit_events d some ++ timer_events_if_still (visiting visited d some) some)
    events_same =
        let later = timer_events_same t visited_ends in
        let timed : timer_events_if_still t all ≡ timer_events_if_still (visiting visited d some) some =
        (λ i. if t.changed then [] else later i) ∙ ap (λ z. timer_events_if_still z some) (visits d drained_ends).sends in
        λ i. drain_events s ++ ((visits d drained_ends).send_events i ++ timed i)

    rounded : HasEnds (round s)
    rounded = led s (round s) (round_events s) (round_lead s) h

pub rounds_linked : RoundsAreLinked
unfolding round round_events
rounds_linked s orderly own =
    let here : HasEnds s.world own s = record { orderly = orderly; same = refl } in
    let after : HasEnds s.world own (round s) = rounded s.world own s here in
    record {
      is = round_same s.world own s here;
      events = events_same s.world own s here;
      keeps = keeps s.world (round s).world after.same;
      orderly = after.orderly;
    }
