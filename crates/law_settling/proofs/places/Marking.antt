-- Which marks an event of settling changes.
use Rattle.std.proofs.Common.{◌≡◌, ℕ, List, true, refl, sym, ap, ◌∙◌, subst, inl, inr}
use Rattle.std.specs.Prelude.{Some, option_and_then, slice_get, map, flat_map}
use Rattle.std.proofs.Math.ListN.{set}
use Rattle.rdma_types.specs.declared.names.ObjName.{ObjName}
use Rattle.rdma_types.specs.Lists.{first_that}
use Rattle.protocol.specs.Bytes.{number_at}
use Rattle.protocol.specs.declared.events.Event.TheVariants as events
use Rattle.protocol.specs.declared.events.WorldEvent.TheVariants as world_events
use Rattle.protocol.specs.DeviceStep.{device_step}
use Rattle.protocol.specs.Refusals.{has_context}
use Rattle.protocol.specs.Settle.{link_at, live_ends, mark_of, marks, same_marks, transmit}
use Rattle.protocol.specs.State.{World, Device, Context, End, Flight, Link, context_at, end_at}
use Rattle.protocol.specs.WorldStep.{world_step, device_with, home, live_context, or_none}
use Rattle.law_settling.specs.Places.{ComesToPlace, DeliveriesMarkNone, DeliveriesMarkOne, HaveOwnIds, IsOnlyAt, IsOrderly, MarksOnly, TimersMarkOne, TransmissionsMarkNone, link_there, mark_there}
use Rattle.law_settling.specs.Weights.{same_mark}
use Rattle.law_settling.proofs.places.Changes.{link_after, link_before, mark_same, marks_same, world_marks}
use Rattle.law_settling.proofs.places.Lists.{same_place, store_place, the_same}
use Rattle.law_settling.proofs.places.Reaching.{ReachesOne, Reaches, arrives_none, arrives_one, delivered_world}
use Rattle.law_settling.proofs.places.Turning.{HomeChanges, TurnsOne, at_home, expire_steps, over_steps, transmit_steps, turned_id, turned_same, turned_world}

-- ---- the same devices

unmarked : (w w' : World) → w'.devices ≡ w.devices → same_marks (marks w) (marks w') ≡ true
unfolding live_ends
unmarked w w' h = ap (λ ds. same_marks (marks w) (map (λ (e : End). mark_of e.link) (flat_map (λ (d : Device). flat_map (λ (c : Context). c.ends) d.contexts) ds))) h ∙ marks_same (marks w)

links_there : (w w' : World) (i j k : ℕ) → w'.devices ≡ w.devices → link_there w' i j k ≡ link_there w i j k
links_there w w' i j k h = ap (λ (ds : List Device). option_and_then (λ (e : End). e.link) (option_and_then (λ (d : Device). option_and_then (λ (c : Context). slice_get c.ends k) (slice_get d.contexts j)) (slice_get ds i))) h

links_at : (w w' : World) (o : ObjName) → w'.devices ≡ w.devices → link_at w' o ≡ link_at w o
unfolding live_context home
links_at w w' o h = ap (λ ds. (end_at (context_at (or_none (first_that (λ d. has_context d o.context) ds)) o.context) o.name).link) h

-- a device put where it is
put_back : (w w' : World) (i : ℕ) (d d' : Device) → slice_get w.devices i ≡ Some d → w'.devices ≡ set w.devices i d' → d' ≡ d → w'.devices ≡ w.devices
put_back w w' i d d' here devices same = devices ∙ (ap (set w.devices i) same ∙ same_place w.devices i d here)

-- ---- a delivery

module _ (w : World) (n i j k : ℕ) (ids : HaveOwnIds w) (r : ComesToPlace w n i j k) where
  abbrev Marked : World → Type 0
  Marked w' = same_marks (marks w) (marks w') ≡ same_mark (mark_there w i j k) (mark_there w' i j k)

  stays : (w' : World) → w'.devices ≡ w.devices → Marked w'
  stays w' h = unmarked w w' h ∙ sym (ap (λ l. same_mark (mark_there w i j k) (mark_of l)) (links_there w w' i j k h) ∙ mark_same (mark_there w i j k))

  module _ (w' : World) (f : Flight) (d : Device) (i' : ℕ) (h : Reaches w w' n f d i') where
    flights : r.flight ≡ f
    flights = the_same r.flight f (sym r.kept ∙ h.kept)

    devices : r.device ≡ d
    devices = the_same r.device d (sym r.found ∙ (ap (λ (z : Flight). device_with w z.to) flights ∙ h.is))

    abbrev d' : Device
    d' = (device_step d (events.Arrive f.from f.bytes)).device

    here : slice_get w.devices i ≡ Some d
    here = r.here ∙ ap Some devices

    -- the places i and i' are those of one id
    put : w'.devices ≡ set w.devices i d'
    put = h.devices ∙ (sym (store_place (λ x. x.id) w.devices i' d d' ids h.here) ∙ store_place (λ x. x.id) w.devices i d d' ids here)

    only : IsOnlyAt d (number_at 5 3 f.bytes) j k
    only = subst (λ z. IsOnlyAt z (number_at 5 3 f.bytes) j k) devices (subst (λ (z : Flight). IsOnlyAt r.device (number_at 5 3 z.bytes) j k) flights r.only)

    by_one : ReachesOne d d' (number_at 5 3 f.bytes) → Marked w'
    by_one (inl same) = stays w' (put_back w w' i d d' here put same)
    by_one (inr a) =
        let p = only a.j a.k a.changes.context a.changes.end a.changes.owner a.changes.there a.numbered in
        let before : link_there w i j k ≡ Some a.l = (λ t. link_there w i (sym p.0 t) (sym p.1 t)) ∙ link_before d d' a.j a.k a.l a.l' a.changes w w' i here put in
        let after : link_there w' i j k ≡ Some a.l' = (λ t. link_there w' i (sym p.0 t) (sym p.1 t)) ∙ link_after d d' a.j a.k a.l a.l' a.changes w w' i here put in
        world_marks d d' a.j a.k a.l a.l' a.changes w w' i here put ∙ sym (λ t. same_mark (mark_of (before t)) (mark_of (after t)))

    reached_marked : Marked w'
    reached_marked = by_one (arrives_one d f.from f.bytes (subst IsOrderly devices r.orderly))

  delivered_marked : Marked (world_step w (world_events.Deliver n)).world
  delivered_marked = delivered_world w n ids Marked stays reached_marked

pub deliveries_mark_one : DeliveriesMarkOne
deliveries_mark_one w n i j k ids r = delivered_marked w n i j k ids r

pub deliveries_mark_none : DeliveriesMarkNone
deliveries_mark_none w n ids none =
    let same : (world_step w (world_events.Deliver n)).world.devices ≡ w.devices =
    delivered_world w n ids (λ w'. w'.devices ≡ w.devices) (λ w' h. h)
    (λ w' f d i h. put_back w w' i d _ h.here h.devices (arrives_none d f.from f.bytes (none f d h.seen h.is))) in
    (same, unmarked w (world_step w (world_events.Deliver n)).world same)

-- ---- a turn

abbrev Any : Link → Link → Type 0
Any l l' = Unit {0}

module _ (w : World) (o : ObjName) (ids : HaveOwnIds w) where
  abbrev d : Device
  d = home w o.context

  still : (w' : World) → w'.devices ≡ w.devices → MarksOnly w w' o
  still w' h = unmarked w w' h ∙ sym (ap (λ l. same_mark (mark_of (link_at w o)) (mark_of l)) (links_at w w' o h) ∙ mark_same (mark_of (link_at w o)))

  marked : (w' : World) (i : ℕ) (d' : Device) → HomeChanges w w' o.context i d' → TurnsOne Any d d' o → MarksOnly w w' o
  unfolding live_context
  marked w' i d' h (inl same) = still w' (put_back w w' i d d' h.here.here h.devices same)
  marked w' i d' h (inr t) =
      let before : link_at w o ≡ Some t.l = t.before in
      let after : link_at w' o ≡ Some t.l' = at_home w w' o i d' h (turned_same Any d d' o (inr t)) ∙ t.after in
      world_marks d d' t.j t.k t.l t.l' t.changes w w' i h.here.here h.devices ∙ sym (λ z. same_mark (mark_of (before z)) (mark_of (after z)))

  expire_marks : MarksOnly w (world_step w (world_events.At (events.Expire o))).world o
  expire_marks =
      let one = expire_steps Any d o (λ l l'. tt) in
      turned_world w ids (events.Expire o) (turned_id Any d (device_step d (events.Expire o)).device o one) (λ w'. MarksOnly w w' o) (still w refl) (λ w' i h. marked w' i (device_step d (events.Expire o)).device h one)

  over_marks : MarksOnly w (world_step w (world_events.At (events.RnrOver o))).world o
  over_marks =
      let one = over_steps Any d o (λ l l'. tt) in
      turned_world w ids (events.RnrOver o) (turned_id Any d (device_step d (events.RnrOver o)).device o one) (λ w'. MarksOnly w w' o) (still w refl) (λ w' i h. marked w' i (device_step d (events.RnrOver o)).device h one)

  -- what is watched stays
  abbrev Same : Link → Link → Type 0
  Same l l' = mark_of (Some l') ≡ mark_of (Some l)

  sent_marked : (w' : World) (i : ℕ) (d' : Device) → HomeChanges w w' o.context i d' → TurnsOne Same d d' o → same_marks (marks w) (marks w') ≡ true
  sent_marked w' i d' h (inl same) = unmarked w w' (put_back w w' i d d' h.here.here h.devices same)
  sent_marked w' i d' h (inr t) =
      world_marks d d' t.j t.k t.l t.l' t.changes w w' i h.here.here h.devices
      ∙ (ap (λ m. same_mark (mark_of (Some t.l)) m) t.rel ∙ mark_same (mark_of (Some t.l)))

  transmit_marks : same_marks (marks w) (marks (world_step w (transmit o)).world) ≡ true
  transmit_marks =
      let one = transmit_steps Same d o (λ l l' same. same) in
      turned_world w ids (events.Transmit o) (turned_id Same d (device_step d (events.Transmit o)).device o one) (λ w'. same_marks (marks w) (marks w') ≡ true) (unmarked w w refl) (λ w' i h. sent_marked w' i (device_step d (events.Transmit o)).device h one)

pub timers_mark_one : TimersMarkOne
timers_mark_one w o ids = (expire_marks w o ids, over_marks w o ids)

pub transmissions_mark_none : TransmissionsMarkNone
transmissions_mark_none w o ids = transmit_marks w o ids
