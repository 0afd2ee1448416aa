-- Each event of settling keeps the places, and each list of them.
use Rattle.std.proofs.Common.{◌≡◌, ◌≢◌, ℕ, [], ◌∷◌, map, refl, sym, ap, ◌∙◌, subst}
use Rattle.std.specs.Prelude.{All, AllPairs, Some, slice_get}
use Rattle.std.proofs.Math.ListN.{set}
use Rattle.std.proofs.lemmas.List.Elements.{All-head, All-set, All-tail}
use Rattle.rdma_types.specs.declared.names.ObjName.{ObjName}
use Rattle.protocol.specs.declared.events.Event.{Event}
use Rattle.protocol.specs.declared.events.Event.TheVariants as events
use Rattle.protocol.specs.declared.events.WorldEvent.{WorldEvent}
use Rattle.protocol.specs.declared.events.WorldEvent.TheVariants as world_events
use Rattle.protocol.specs.DeviceStep.{device_step}
use Rattle.protocol.specs.Events.{IsLawfulEvent}
use Rattle.protocol.specs.State.{World, Device, Link}
use Rattle.protocol.specs.WorldStep.{world_step, world_after, context_of_event, home, same_address}
use Rattle.law_devices.specs.Sound.{GivesNames}
use Rattle.law_devices.proofs.Law.{stays-sound}
use Rattle.law_devices.proofs.Regions.{All-at}
use Rattle.law_settling.specs.Places.{AreOrderly, EventsKeepPlaces, HaveOwnIds, IsOrderly, IsReady, PlacesStayOn, RunsKeepPlaces, device_outline, outline}
use Rattle.law_settling.specs.Settling.{IsSettling, IsTurn}
use Rattle.law_settling.proofs.places.Changes.{world_same}
use Rattle.law_settling.proofs.places.Lists.{first_place}
use Rattle.law_settling.proofs.places.Outlines.{contexts_same, ids_same, keeps}
use Rattle.law_settling.proofs.places.Reaching.{arrives_one, delivered_world, reached_same}
use Rattle.law_settling.proofs.places.Turning.{TurnsOne, expire_steps, over_steps, transmit_steps, turned_id, turned_same, turned_world}

-- ---- one event

-- any two links
abbrev Any : Link → Link → Type 0
Any l l' = Unit {0}

-- a turn changes at most the end that it names
abbrev turn_object : Event → ObjName
turn_object (events.Transmit o) = o
turn_object (events.Expire o) = o
turn_object (events.RnrOver o) = o
turn_object e = record { context = []; name = [] }

turn_one : (e : Event) → IsTurn e → (d : Device) → TurnsOne Any d (device_step d e).device (turn_object e)
turn_one (events.Transmit o) is d = transmit_steps Any d o (λ l l' same. tt)
turn_one (events.Expire o) is d = expire_steps Any d o (λ l l'. tt)
turn_one (events.RnrOver o) is d = over_steps Any d o (λ l l'. tt)
turn_one e is d = absurd is

-- what a step does with the devices of a world, where they have ids of their own
module _ (w : World) (ids : HaveOwnIds w) (Q : World → Type 0) (stays : (w' : World) → w'.devices ≡ w.devices → Q w') (changes : (w' : World) (i : ℕ) (d d' : Device) → slice_get w.devices i ≡ Some d → w'.devices ≡ set w.devices i d' → device_outline d' ≡ device_outline d → (IsOrderly d → IsOrderly d') → Q w') where
  -- a step keeps what is orderly of a device of the same outline
  orderly_step : (d : Device) (e : Event) → IsLawfulEvent e → GivesNames e → device_outline (device_step d e).device ≡ device_outline d → IsOrderly d → IsOrderly (device_step d e).device
  orderly_step d e law names same o = record {
    sound = stays-sound d e o.sound law names;
    contexts = subst (AllPairs (λ a b. a ≢ b)) (sym (contexts_same d (device_step d e).device same)) o.contexts;
  }

  turn_keeps : (e : Event) → IsTurn e → IsLawfulEvent e → GivesNames e → Q (world_step w (world_events.At e)).world
  turn_keeps e is law names =
      let d : Device = home w (context_of_event e) in
      let one = turn_one e is d in
      let same = turned_same Any d (device_step d e).device (turn_object e) one in
      turned_world w ids e (turned_id Any d (device_step d e).device (turn_object e) one) Q (stays w refl)
      (λ w' i h. changes w' i d (device_step d e).device h.here.here h.devices same (orderly_step d e law names same))

  pub event_keeps : (e : WorldEvent) → IsSettling e → IsReady w e → Q (world_step w e).world
  event_keeps (world_events.Deliver k) is ready =
      delivered_world w k ids Q stays
      (λ w' f d i h.
      let e : Event = events.Arrive f.from f.bytes in
      let orderly : IsOrderly d = ready f d h.kept h.is in
      let same = reached_same d (device_step d e).device _ (arrives_one d f.from f.bytes orderly) in
      changes w' i d (device_step d e).device h.here h.devices same (orderly_step d e tt tt same))
  event_keeps (world_events.At (events.Transmit o)) is ready = turn_keeps (events.Transmit o) tt tt tt
  event_keeps (world_events.At (events.Expire o)) is ready = turn_keeps (events.Expire o) tt tt tt
  event_keeps (world_events.At (events.RnrOver o)) is ready = turn_keeps (events.RnrOver o) tt tt tt
  event_keeps (world_events.At e) is ready = absurd is
  event_keeps e is ready = absurd is

same_devices : (w w' : World) → w'.devices ≡ w.devices → outline w' ≡ outline w
unfolding outline
same_devices w w' h = ap (map device_outline) h

pub outline_kept : (w : World) (e : WorldEvent) → IsSettling e → HaveOwnIds w → IsReady w e → outline (world_step w e).world ≡ outline w
outline_kept w e is ids ready =
    event_keeps w ids (λ w'. outline w' ≡ outline w) (same_devices w) (λ w' i d d' here devices same orderly. world_same w w' i d d' here devices same) e is ready

pub events_keep : EventsKeepPlaces
events_keep w e is ids ready = keeps w (world_step w e).world (outline_kept w e is ids ready)

-- ---- lists of events

-- a world whose devices are all orderly is ready
pub ready : (w : World) → AreOrderly w → (e : WorldEvent) → IsReady w e
ready w h (world_events.Deliver k) = λ f d kept is. let at = first_place (λ z. same_address z.address f.to) w.devices d is in All-at IsOrderly w.devices at.0 d h.devices at.1.here
ready w h e = tt

-- .. and stays orderly
pub orderly_kept : (w : World) (e : WorldEvent) → IsSettling e → AreOrderly w → AreOrderly (world_step w e).world
orderly_kept w e is h = record {
  ids = ids_same w (world_step w e).world (outline_kept w e is h.ids (ready w h e)) h.ids;
  devices =
      event_keeps w h.ids (λ w'. All IsOrderly w'.devices)
      (λ w' same. subst (All IsOrderly) (sym same) h.devices)
      (λ w' i d d' here devices same orderly. subst (All IsOrderly) (sym devices) (All-set IsOrderly w.devices i d' (orderly (All-at IsOrderly w.devices i d h.devices here)) h.devices))
      e is (ready w h e);
}

pub stay_on : PlacesStayOn
stay_on a b c h k = record { outlines = k.outlines ∙ h.outlines; places = λ o i j n p. k.places o i j n (h.places o i j n p); names = k.names ∙ h.names }

pub runs_keep : RunsKeepPlaces
unfolding world_after
runs_keep w [] all h = (keeps w w refl, h)
runs_keep w (e ∷ es) all h =
    let is : IsSettling e = All-head IsSettling e es all in
    let later = runs_keep (world_step w e).world es (All-tail IsSettling e es all) (orderly_kept w e is h) in
    (stay_on w (world_step w e).world (world_after w (e ∷ es)) (events_keep w e is h.ids (ready w h e)) later.0, later.1)
