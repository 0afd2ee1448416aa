-- The visits of all live ends are those of the connected ones.
use Rattle.std.proofs.Common.{◌≡◌, List, [], ◌∷◌, ◌++◌, false, refl, sym, ap, ◌∙◌, subst}
use Rattle.std.specs.Prelude.{Option, Some, None, is_some, if◌then◌else◌}
use Rattle.rdma_types.specs.declared.names.ObjName.{ObjName}
use Rattle.protocol.specs.declared.events.WorldEvent.{WorldEvent}
use Rattle.protocol.specs.EndWords.{is_resuming_link, is_running}
use Rattle.protocol.specs.Settle.{Settling, drained, expire_by, expire_visit, link_at, live_names, rnr_by, rnr_visit, sends_all, sends_if_running, settle_step, transmit, visited, visiting}
use Rattle.protocol.specs.State.{World, Link}
use Rattle.law_settling.specs.Events.{expire_events, expire_events_by, rnr_events, rnr_events_by, running_events, send_all_events, send_events, visit_events, visiting_events}
use Rattle.law_settling.specs.Places.{AreOrderly, HaveOwnContexts, VisitsAreLinked, linked_names, name_if, outline}
use Rattle.law_settling.proofs.places.Linked.{linked_is, linked_of}
use Rattle.law_settling.proofs.places.Outlines.{link_same, linked_same, live_same}
use Rattle.law_settling.proofs.places.Staying.{runs_keep}
use Rattle.law_settling.proofs.steps.Events.{Lead, expire_lead, rnr_lead, visit_lead}

-- ---- an end in Init is not visited

-- the end is left as it is, by no event
abbrev Skips : (Settling → ObjName → Settling) → (Settling → ObjName → List WorldEvent) → Type 0
Skips visit events = (s : Settling) (o : ObjName) → link_at s.world o ≡ None → (visit s o ≡ s) × (events s o ≡ [])

visited_skips : Skips visited visit_events
unfolding visited sends_if_running visit_events running_events
visited_skips s o h = (
  ap (λ r. if is_resuming_link r then sends_if_running (drained (settle_step s (transmit o))) o else if is_running r then sends_all s o else s) h,
  ap (λ r. if is_resuming_link r then send_events s o ++ running_events (drained (settle_step s (transmit o))) o else if is_running r then send_all_events s o else []) h,
)

rnr_skips : Skips rnr_visit rnr_events
unfolding rnr_visit rnr_events
rnr_skips s o h = (ap (rnr_by s o) h, ap (rnr_events_by s o) h)

expire_skips : Skips expire_visit expire_events
unfolding expire_visit expire_events
expire_skips s o h = (ap (expire_by s o) h, ap (expire_events_by s o) h)

-- ---- visits

module _ (w : World) (visit : Settling → ObjName → Settling) (events : Settling → ObjName → List WorldEvent) (lead : (s : Settling) (o : ObjName) → Lead s.world (events s o) (visit s o).world) (skips : Skips visit events) where
  -- the settling's world is orderly, and has the ends of w
  record HasEnds (s : Settling) : Type 0 where
    orderly : AreOrderly s.world
    same : outline s.world ≡ outline w

  goes_on : (s : Settling) (o : ObjName) → HasEnds s → HasEnds (visit s o)
  goes_on s o h =
      let l : Lead s.world (events s o) (visit s o).world = lead s o in
      let kept = runs_keep s.world (events s o) l.each h.orderly in
      record {
        orderly = subst AreOrderly l.after kept.1;
        same = ap outline (sym l.after) ∙ (kept.0.outlines ∙ h.same);
      }

  none_there : (s : Settling) (o : ObjName) → HasEnds s → link_at w o ≡ None → link_at s.world o ≡ None
  none_there s o h none = by_link (link_at s.world o) (link_same w s.world o h.same ∙ ap (λ r. is_some r) none)
    where
      by_link : (r : Option Link) → is_some r ≡ false → r ≡ None
      by_link None e = refl
      by_link (Some l) e = absurd (cc)

  visits_same : (os : List ObjName) (s : Settling) → HasEnds s → visiting visit s os ≡ visiting visit s (linked_of w os)
  unfolding visiting
  visits_same [] s h = refl
  visits_same (o ∷ os) s h = by_link (link_at w o) refl (λ t k. visits_same os t k)
    where
      by_link : (r : Option Link) → link_at w o ≡ r → ((t : Settling) → HasEnds t → visiting visit t os ≡ visiting visit t (linked_of w os)) → visiting visit (visit s o) os ≡ visiting visit s (name_if r o ++ linked_of w os)
      by_link None e later = ap (λ t. visiting visit t os) (skips s o (none_there s o h e)).0 ∙ later s h
      by_link (Some l) e later = later (visit s o) (goes_on s o h)

  events_same : (os : List ObjName) (s : Settling) → HasEnds s → visiting_events visit events s os ≡ visiting_events visit events s (linked_of w os)
  unfolding visiting_events
  events_same [] s h = refl
  events_same (o ∷ os) s h = by_link (link_at w o) refl (λ t k. events_same os t k)
    where
      by_link : (r : Option Link) → link_at w o ≡ r → ((t : Settling) → HasEnds t → visiting_events visit events t os ≡ visiting_events visit events t (linked_of w os)) → events s o ++ visiting_events visit events (visit s o) os ≡ visiting_events visit events s (name_if r o ++ linked_of w os)
      by_link None e later =
          let skip = skips s o (none_there s o h e) in
          (λ i. skip.1 i ++ visiting_events visit events (skip.0 i) os) ∙ later s h
      by_link (Some l) e later = ap (λ es. events s o ++ es) (later (visit s o) (goes_on s o h))

-- the ends of a settling's world
module _ (w : World) (s : Settling) (orderly : AreOrderly s.world) (own : HaveOwnContexts s.world) (same : outline s.world ≡ outline w) (visit : Settling → ObjName → Settling) (events : Settling → ObjName → List WorldEvent) (lead : (s : Settling) (o : ObjName) → Lead s.world (events s o) (visit s o).world) (skips : Skips visit events) where
  names : linked_of s.world (live_names w) ≡ linked_names w
  names = ap (linked_of s.world) (sym (live_same w s.world same)) ∙ (sym (linked_is s.world orderly own) ∙ linked_same w s.world same)

  visits : visiting visit s (live_names w) ≡ visiting visit s (linked_names w)
  visits = visits_same s.world visit events lead skips (live_names w) s (record { orderly = orderly; same = refl }) ∙ ap (visiting visit s) names

  visit_lists : visiting_events visit events s (live_names w) ≡ visiting_events visit events s (linked_names w)
  visit_lists = events_same s.world visit events lead skips (live_names w) s (record { orderly = orderly; same = refl }) ∙ ap (visiting_events visit events s) names

pub visits_linked : VisitsAreLinked
visits_linked w s orderly own same = record {
  sends = visits w s orderly own same visited visit_events visit_lead visited_skips;
  waits = visits w s orderly own same rnr_visit rnr_events rnr_lead rnr_skips;
  expiries = visits w s orderly own same expire_visit expire_events expire_lead expire_skips;
  send_events = visit_lists w s orderly own same visited visit_events visit_lead visited_skips;
  wait_events = visit_lists w s orderly own same rnr_visit rnr_events rnr_lead rnr_skips;
  expiry_events = visit_lists w s orderly own same expire_visit expire_events expire_lead expire_skips;
}
