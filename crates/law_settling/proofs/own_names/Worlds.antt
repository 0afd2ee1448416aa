-- Each lawful event keeps ids and names apart.
use Rattle.std.proofs.Common.{arith, ◌≡◌, ◌≢◌, ◌≤◌, ◌+◌, ◌⊎◌, ℕ, List, [], ◌∷◌, map, true, false, Bool, refl, sym, ap, ◌∙◌, subst, inl, inr}
use Rattle.std.specs.Prelude.{Option, Some, None, bytes_eq, count_by, is_some, if◌then◌else◌, nat_eq, not, slice_get, sum_by, ◌||◌}
use Rattle.std.specs.List.{IsDistinct}
use Rattle.std.proofs.Math.ListN.{set}
use Rattle.std.proofs.lemmas.List.Elements.{All-head, All-tail}
use Rattle.std.proofs.lemmas.List.Sums.{sum_by_push}
use Rattle.rdma_types.specs.Causes.{Cause, cause, first_cause}
use Rattle.rdma_types.specs.declared.answers.Answer.TheVariants as answer
use Rattle.rdma_types.specs.declared.answers.Refusal.{Refusal}
use Rattle.rdma_types.specs.declared.names.Name.{Name}
use Rattle.rdma_types.specs.declared.names.ObjName.{ObjName}
use Rattle.rdma_types.specs.declared.requests.Address.{Address}
use Rattle.rdma_types.specs.declared.requests.Terms.{Terms}
use Rattle.rdma_types.specs.Lists.{has_name, some, store}
use Rattle.rdma_types.proofs.Tables.{name_is}
use Rattle.protocol.specs.declared.events.Event.{Event}
use Rattle.protocol.specs.declared.events.Event.TheVariants as events
use Rattle.protocol.specs.declared.events.WorldEvent.TheVariants as world_events
use Rattle.protocol.specs.declared.images.ContextImage.{ContextImage}
use Rattle.protocol.specs.DeviceStep as device
use Rattle.protocol.specs.DeviceStep.{device_step}
use Rattle.protocol.specs.Events.{IsHandedOn, IsLawfulWorldEvent}
use Rattle.protocol.specs.Fabric.{Look, Here, IsGone, IsLost, IsAged, kept_flight, look, losing}
use Rattle.protocol.specs.Refusals.{has_context, refusal_of}
use Rattle.protocol.specs.State.{Context, Device, Flight, World, device_at, empty_world, no_device}
use Rattle.protocol.specs.WorldStep as step
use Rattle.protocol.specs.WorldStep.{connects_one, context_of_event, device_with, end_of, has_device, home, is_carried, is_live, now_of, ran, runs, same_address, world_after, world_step}
use Rattle.law_devices.proofs.Founds.{no-cause, not-false}
use Rattle.law_devices.proofs.Tables.{word-there}
use Rattle.law_simulation.proofs.relation.Tables.{name_tells}
use Rattle.law_simulation.proofs.relation.Worlds.{holds_it, home_found}
use Rattle.law_simulation.proofs.stop_restore.Lists.{count_map}
use Rattle.law_settling.specs.OwnNames.{EventsKeepOwn, HaveOwn, RunsHaveOwn, RunsKeepOwn, holders}
use Rattle.law_settling.specs.Places.{HaveOwnIds}
use Rattle.law_settling.proofs.bound.Delivering.{ran_devices}
use Rattle.law_settling.proofs.places.Lists.{first_place, map_place, store_place}
use Rattle.law_settling.proofs.own_names.Counting.{counted_none, counted_push, counted_without, distinct_push, found_named, number_place, once_if, some_place, sum_none, sum_place}
use Rattle.law_settling.proofs.own_names.Moving.{Gains, Leaves, held, making, restoring, stopping}
use Rattle.law_settling.proofs.own_names.Stepping.{KeepsAll, KeepsNames, step_keeps}

-- ---- a device's step in a world

-- how many images have the name
abbrev in_image : Name → Option ContextImage → ℕ
in_image k None = 0
in_image k (Some i) = once_if i.name k

image_counted : (k : Name) (o : Option ContextImage) (v : World) → count_by (λ i. bytes_eq i.name k) (step.with_image o v).carried ≡ count_by (λ i. bytes_eq i.name k) v.carried + in_image k o
image_counted k None v = omega arith
image_counted k (Some i) v = counted_push (λ (x : ContextImage). bytes_eq x.name k) i v.carried

-- the device at place i makes a step that keeps its id
module _ (w : World) (ids : HaveOwnIds w) (i : ℕ) (d : Device) (here : slice_get w.devices i ≡ Some d) (s : device.Step) (id : s.device.id ≡ d.id) where
  at_place : (ran w s).world.devices ≡ set w.devices i s.device
  at_place = ran_devices w s ∙ (ap (λ k. store (λ x. x.id) k s.device w.devices) id ∙ store_place (λ x. x.id) w.devices i d s.device ids here)

  ran_ids : HaveOwnIds (ran w s).world
  ran_ids = subst (IsDistinct nat_eq) (sym (ap (map (λ (x : Device). x.id)) at_place ∙ map_place (λ (x : Device). x.id) w.devices i d s.device here id)) ids

  ran_carried : (k : Name) → count_by (λ x. bytes_eq x.name k) (ran w s).world.carried ≡ count_by (λ x. bytes_eq x.name k) w.carried + in_image k s.outcome.image
  unfolding ran step.with_device
  ran_carried k = image_counted k s.outcome.image _

  ran_holders : (k : Name) → holders (ran w s).world k + held k d ≡ holders w k + held k s.device + in_image k s.outcome.image
  unfolding holders
  ran_holders k = omega (arith, ap (sum_by (held k)) at_place, sum_place (held k) w.devices i d s.device here, ran_carried k)

-- the names that devices have are counted by their contexts
held_same : (d d' : Device) (k : Name) → map (λ c. c.name) d'.contexts ≡ map (λ c. c.name) d.contexts → held k d' ≡ held k d
held_same d d' k same =
    sym (count_map (λ n. bytes_eq n k) (λ (c : Context). c.name) d'.contexts)
    ∙ (ap (count_by (λ n. bytes_eq n k)) same ∙ count_map (λ n. bytes_eq n k) (λ (c : Context). c.name) d.contexts)

module _ (w : World) (own : HaveOwn w) (i : ℕ) (d : Device) (here : slice_get w.devices i ≡ Some d) (s : device.Step) where
  own_kept : KeepsNames d s → HaveOwn (ran w s).world
  own_kept h = record {
    ids = ran_ids w own.ids i d here s h.id;
    names = λ k. omega (arith, own.names k, ran_holders w own.ids i d here s h.id k, held_same d s.device k h.names, ap (in_image k) h.image);
  }

  own_left : Leaves d s → HaveOwn (ran w s).world
  own_left h = record {
    ids = ran_ids w own.ids i d here s h.id;
    names = λ k. omega (arith, own.names k, ran_holders w own.ids i d here s h.id k, h.counts k, ap (in_image k) h.image);
  }

  gained : (n : Name) → Gains d s n → (k : Name) → holders (ran w s).world k ≡ holders w k + once_if n k
  gained n h k = omega (arith, ran_holders w own.ids i d here s h.id k, h.counts k, ap (in_image k) h.image)

  -- the same contexts live
  lives_same : KeepsNames d s → (n : Name) → is_live (ran w s).world n ≡ is_live w n
  lives_same h n =
      ap (some (λ (x : Device). has_context x n)) (at_place w own.ids i d here s h.id)
      ∙ some_place (λ (x : Device). has_context x n) w.devices i d s.device here
      (sym (word-there (λ (c : Context). c.name) n s.device.contexts) ∙ (ap (has_name (λ m. m) n) h.names ∙ word-there (λ (c : Context). c.name) n d.contexts))

-- where a refusal leaves the world as it is
by_cause : (w : World) (causes : List Cause) (s : step.Step) → HaveOwn w → (first_cause causes ≡ None → HaveOwn s.world) → HaveOwn (step.by_refusal w (first_cause causes) s).world
by_cause w causes s own done = by (first_cause causes) refl
  where
    by : (r : Option Refusal) → first_cause causes ≡ r → HaveOwn (step.by_refusal w r s).world
    by None h = done h
    by (Some r) h = own

neither : (a b : Bool) → (a || b) ≡ false → (a ≡ false) × (b ≡ false)
neither true b t = absurd (cc)
neither false b t = (refl, t)

-- ---- at the home of a context

module _ (w : World) (own : HaveOwn w) (n : Name) (live : is_live w n ≡ true) where
  home_place : (i : ℕ) × (slice_get w.devices i ≡ Some (home w n))
  home_place = let at = first_place (holds_it n) w.devices (home w n) (home_found w n live) in (at.0, at.1.here)

  home_keeps : (e : Event) → KeepsAll e → HaveOwn (runs w (home w n) e).world
  home_keeps e is = own_kept w own home_place.0 (home w n) home_place.1 (device_step (home w n) e) (step_keeps (home w n) e is)

  home_lives : (e : Event) → KeepsAll e → (m : Name) → is_live (runs w (home w n) e).world m ≡ is_live w m
  home_lives e is m = lives_same w own home_place.0 (home w n) home_place.1 (device_step (home w n) e) (step_keeps (home w n) e is) m

  home_stops : HaveOwn (runs w (home w n) (events.Stop n false)).world
  home_stops = elim (stopping (home w n) n) [
    | inl h ↦ own_kept w own home_place.0 (home w n) home_place.1 (device_step (home w n) (events.Stop n false)) h
    | inr h ↦ own_left w own home_place.0 (home w n) home_place.1 (device_step (home w n) (events.Stop n false)) h
  ]

-- what an event of a context is not refused for
is_alive : (w : World) (n : Name) (more : List Cause) → first_cause (step.context_causes w n more) ≡ None → is_live w n ≡ true
is_alive w n more h = not-false (is_live w n) (no-cause _ _ (no-cause _ _ h).1).0

handed_keeps : (e : Event) → IsHandedOn e → KeepsAll e
handed_keeps (events.MakeContext name) is = is
handed_keeps (events.Connect o peer partner terms) is = tt
handed_keeps (events.Arrive from bytes) is = tt
handed_keeps (events.Stop name alone) is = is
handed_keeps (events.Restore image) is = is
handed_keeps (events.Release name) is = tt
handed_keeps (events.MakeDomain o) is = tt
handed_keeps (events.MakeRegion o domain base size rights) is = tt
handed_keeps (events.MakeCq o capacity) is = tt
handed_keeps (events.MakeQp o domain send_cq recv_cq send_depth recv_depth) is = tt
handed_keeps (events.DropRegion o) is = tt
handed_keeps (events.Store o at bytes) is = tt
handed_keeps (events.Load o at size) is = tt
handed_keeps (events.PostSend o r) is = tt
handed_keeps (events.PostRecv o r) is = tt
handed_keeps (events.Poll o most) is = tt
handed_keeps (events.Transmit o) is = tt
handed_keeps (events.Expire o) is = tt
handed_keeps (events.RnrOver o) is = tt

module _ (w : World) (own : HaveOwn w) where
  handed : (e : Event) → IsHandedOn e → HaveOwn (step.steps_at w (context_of_event e) e).world
  unfolding step.steps_at
  handed e is = by_cause w (step.context_causes w (context_of_event e) []) _ own (λ h. home_keeps w own (context_of_event e) (is_alive w (context_of_event e) [] h) e (handed_keeps e is))

  stops_own : (n : Name) → HaveOwn (step.stops w n).world
  unfolding step.stops
  stops_own n = by_cause w (step.context_causes w n _) _ own (λ h. home_stops w own n (is_alive w n _ h))

  connects_own : (one two : ObjName) (terms : Terms) → HaveOwn (step.connects w one two terms).world
  unfolding step.connects connects_one
  connects_own one two terms =
      by_cause w (step.connect_causes w one two) _ own
      (λ h.
      let p : (not (is_live w one.context) ≡ false) × (not (is_live w two.context) ≡ false) = neither _ _ (no-cause _ _ (no-cause _ _ h).1).0 in
      let a : is_live w one.context ≡ true = not-false _ p.0 in
      let b : is_live w two.context ≡ true = not-false _ p.1 in
      let e : Event = events.Connect one (end_of w two).number (home w two.context).address terms in
      let v : World = (runs w (home w one.context) e).world in
      home_keeps v (home_keeps w own one.context a e tt) two.context (home_lives w own one.context a e tt two.context ∙ b)
      (events.Connect two (end_of v one).number (home v one.context).address (step.exchanged terms)) tt)

  -- ---- the network

  taken_own : (k : ℕ) → HaveOwn (step.with_taken w k)
  unfolding holders
  taken_own k = record { ids = own.ids; names = own.names }

  delivers_own : (k : ℕ) → HaveOwn (step.delivers w k).world
  unfolding step.delivers
  delivers_own k = by_look (look w.sent k (now_of w (kept_flight w.sent k)))
    where
      by_device : (f : Flight) (r : Option Device) → device_with w f.to ≡ r → HaveOwn (step.reaches (step.with_taken w k) f r).world
      by_device f None h = taken_own k
      by_device f (Some d) h =
          let at = first_place (λ z. same_address z.address f.to) w.devices d h in
          own_kept (step.with_taken w k) (taken_own k) at.0 d at.1.here (device_step d (events.Arrive f.from f.bytes)) (step_keeps d (events.Arrive f.from f.bytes) tt)

      by_look : (r : Look) → HaveOwn (step.delivers_by w k r).world
      by_look IsGone = own
      by_look IsLost = own
      by_look IsAged = taken_own k
      by_look (Here f) = by_device f (device_with w f.to) refl

  loses_own : (k : ℕ) → HaveOwn (step.loses w k).world
  unfolding step.loses holders
  loses_own k = by (is_some (kept_flight w.sent k))
    where
      by : (b : Bool) → HaveOwn (if b then step.answers (record w { sent = losing w.sent k }) answer.Done else step.answers w answer.Gone).world
      by true = record { ids = own.ids; names = own.names }
      by false = own

  wires_own : (k : ℕ) → HaveOwn (step.wires w k).world
  unfolding step.wires
  wires_own k = by (kept_flight w.sent k)
    where
      by : (r : Option Flight) → HaveOwn (step.wires_by w r).world
      by None = own
      by (Some f) = own

  -- ---- at the device with an id

  module _ (k : ℕ) (there : has_device w k ≡ true) where
    device_place : (i : ℕ) × (slice_get w.devices i ≡ Some (device_at w k))
    device_place = number_place (λ (d : Device). d.id) no_device k w.devices there

    device_keeps : (e : Event) → KeepsAll e → HaveOwn (runs w (device_at w k) e).world
    device_keeps e is = own_kept w own device_place.0 (device_at w k) device_place.1 (device_step (device_at w k) e) (step_keeps (device_at w k) e is)

    -- no name is held that is neither live nor carried
    none_held : (n : Name) → is_live w n ≡ false → is_carried w n ≡ false → holders w n ≡ 0
    unfolding holders
    none_held n dead home' =
        omega (
          arith,
          sum_none (held n) (λ (d : Device). has_context d n) w.devices (λ d h. counted_none (λ (c : Context). c.name) n d.contexts h) dead,
          counted_none (λ (i : ContextImage). i.name) n w.carried home',
        )

    abbrev made : Name → device.Step
    made n = device_step (device_at w k) (events.MakeContext n)

    most : (n m : Name) → holders w n ≡ 0 → holders (ran w (made n)).world m ≡ holders w m + once_if n m → ((bytes_eq n m ≡ true) × (n ≡ m)) ⊎ ((bytes_eq n m ≡ false) × (n ≢ m)) → holders (ran w (made n)).world m ≤ 1
    most n m none is (inl t) = omega (arith, is, none, ap (holders w) t.1, ap {B = ℕ} (λ b. if b then 1 else 0) t.0)
    most n m none is (inr t) = omega (arith, is, own.names m, ap {B = ℕ} (λ b. if b then 1 else 0) t.0)

    device_makes : (n : Name) → holders w n ≡ 0 → HaveOwn (runs w (device_at w k) (events.MakeContext n)).world
    device_makes n none = elim (making (device_at w k) n) [
      | inl h ↦ own_kept w own device_place.0 (device_at w k) device_place.1 (made n) h
      | inr h ↦ record {
        ids = ran_ids w own.ids device_place.0 (device_at w k) device_place.1 (made n) h.id;
        names = λ m. most n m none (gained w own device_place.0 (device_at w k) device_place.1 (made n) n h m) (name_tells n m);
      }
    ]

    -- an image that is restored is carried no longer
    module _ (n : Name) (image : ContextImage) (found : step.carried_image w n ≡ Some image) where
      carries : (has_name (λ (c : ContextImage). c.name) n w.carried ≡ true) × (bytes_eq image.name n ≡ true)
      unfolding step.carried_image
      carries = found_named (λ (c : ContextImage). c.name) n image w.carried found

      uncarried : (v : World) (m : Name) → v.carried ≡ w.carried → holders (step.without_image v n) m + once_if n m ≡ holders v m
      unfolding holders
      uncarried v m same =
          omega (
            arith,
            counted_without (λ (c : ContextImage). c.name) n m v.carried (ap (has_name (λ (c : ContextImage). c.name) n) same ∙ carries.0),
          )

      restored_own : (r : Option Refusal) → HaveOwn (step.restored_by w n (ran w (device.by_refusal (device_at w k) (events.Restore image) r))).world
      unfolding ran step.numbered step.with_device device.restores
      restored_own (Some r) =
          own_kept w own device_place.0 (device_at w k) device_place.1 (device.answers (device_at w k) (answer.Refused r)) (record { id = refl; names = refl; image = refl })
      restored_own None =
          let h : Gains (device_at w k) (device.done_by (device_at w k) (events.Restore image)) image.name = restoring (device_at w k) image in
          let s : device.Step = device.done_by (device_at w k) (events.Restore image) in
          record {
            ids = ran_ids w own.ids device_place.0 (device_at w k) device_place.1 s h.id;
            names = λ m. omega (
              arith,
              own.names m,
              gained w own device_place.0 (device_at w k) device_place.1 s image.name h m,
              uncarried (ran w s).world m refl,
              ap (λ x. once_if x m) (name_is image.name n carries.1),
            );
          }

      device_restores : HaveOwn (step.restored_by w n (runs w (device_at w k) (events.Restore image))).world
      unfolding device_step
      device_restores = restored_own (refusal_of (device_at w k) (events.Restore image))

  makes_own : (n : Name) (k : ℕ) → HaveOwn (step.makes_context w n k).world
  unfolding step.makes_context
  makes_own n k =
      by_cause w (cause _ (not (has_device w k)) ∷ cause _ (is_live w n || is_carried w n) ∷ []) _ own
      (λ h.
      let p = no-cause _ _ h in
      let q = neither (is_live w n) (is_carried w n) (no-cause _ _ p.1).0 in
      let there : has_device w k ≡ true = not-false _ p.0 in
      device_makes k there n (none_held k there n q.0 q.1))

  releases_own : (n : Name) (k : ℕ) → HaveOwn (step.releases w n k).world
  unfolding step.releases
  releases_own n k = by_cause w (cause _ (not (has_device w k)) ∷ []) _ own (λ h. device_keeps k (not-false _ (no-cause _ _ h).0) (events.Release n) tt)

  restores_own : (n : Name) (k : ℕ) → HaveOwn (step.restores w n k).world
  unfolding step.restores
  restores_own n k =
      by_cause w (cause _ (not (has_device w k) || _) ∷ []) _ own
      (λ h. by_image (not-false _ (neither (not (has_device w k)) _ (no-cause _ _ h).0).0) (step.carried_image w n) refl)
    where
      by_image : has_device w k ≡ true → (r : Option ContextImage) → step.carried_image w n ≡ r → HaveOwn (step.restores_image w n k r).world
      by_image there None h = own
      by_image there (Some image) h = device_restores k there n image h

  -- ---- one more device

  abbrev new_device : ℕ → Address → Device
  new_device id address = record { id = id; address = address; qp_count = 0; key_count = 0; contexts = []; husks = [] }

  adds_own : (id : ℕ) (address : Address) → HaveOwn (step.adds_device w id address).world
  unfolding step.adds_device holders
  adds_own id address =
      by_cause w (cause _ (has_device w id || _) ∷ _ ∷ []) _ own
      (λ h. record {
        ids = distinct_push (λ (d : Device). d.id) (new_device id address) w.devices own.ids (neither (has_device w id) _ (no-cause _ _ h).0).0;
        names = λ k. omega (arith, own.names k, sum_by_push (held k) w.devices (new_device id address));
      })

pub events_keep_own : EventsKeepOwn
unfolding world_step
events_keep_own w (world_events.AddDevice id address) law own = adds_own w own id address
events_keep_own w (world_events.MakeContext n k) law own = makes_own w own n k
events_keep_own w (world_events.At e) law own = handed w own e law.0
events_keep_own w (world_events.Connect one two terms) law own = connects_own w own one two terms
events_keep_own w (world_events.Deliver k) law own = delivers_own w own k
events_keep_own w (world_events.Lose k) law own = loses_own w own k
events_keep_own w (world_events.Wire k) law own = wires_own w own k
events_keep_own w (world_events.Stop n) law own = stops_own w own n
events_keep_own w (world_events.Restore n k) law own = restores_own w own n k
events_keep_own w (world_events.Release n k) law own = releases_own w own n k

-- ---- lists of events

pub runs_keep_own : RunsKeepOwn
unfolding world_after
runs_keep_own w [] all own = own
runs_keep_own w (e ∷ es) all own =
    runs_keep_own (world_step w e).world es (All-tail IsLawfulWorldEvent e es all) (events_keep_own w e (All-head IsLawfulWorldEvent e es all) own)

empty_own : HaveOwn empty_world
unfolding holders IsDistinct
empty_own = record { ids = tt; names = λ n. omega arith }

pub runs_have_own : RunsHaveOwn
runs_have_own es all = runs_keep_own empty_world es all empty_own
