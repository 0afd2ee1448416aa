-- What the delivery of a datagram may have changed.
use Rattle.std.proofs.Common.{◌≡◌, ◌≢◌, ◌⊎◌, ℕ, ◌==◌, List, map, Bool, true, false, Option, Some, sym, ap, ◌∙◌, subst, slice_get, if◌then◌else◌, inl, inr}
use Rattle.std.specs.Prelude.{◌&&◌, IfOk, Result, Ok, Err}
use Rattle.std.specs.declared.alloc.AllocError.{AllocError}
use Rattle.std.proofs.Math.ListN.{set}
use Rattle.std.proofs.lemmas.Bool.Decides.{eqb_tells}
use Rattle.rdma_types.specs.declared.answers.Answer.{Answer}
use Rattle.rdma_types.specs.declared.names.Name.{Name}
use Rattle.rdma_types.specs.Lists.{at}
use Rattle.protocol.specs.declared.events.WorldEvent.{WorldEvent}
use Rattle.protocol.specs.declared.events.WorldEvent.TheVariants as event
use Rattle.protocol.specs.Fabric.{Look, kept_flight}
use Rattle.protocol.specs.State.{Device, Flight, World, device_at, no_device}
use Rattle.law_arrivals.specs.Touched.{ChangesOnly, is_touched}
use Rattle.law_arrivals.proofs.Arriving.{changes-more, changes-nothing}
use Rattle.law_arrivals.proofs.Bytes.{at-store}
use Rattle.device_core.specs.declared.finding.FoundEnd.{FoundEnd}
use Rattle.world_core.specs.Delivered.{ChangesWorldOnly, DeliversWithin, is_delivered, is_touched_by, is_touched_on, is_touched_with}
use Rattle.world_core.specs.Places.{HaveOwnIds}
use Rattle.world_core.specs.Sites.{ComesTo}
use Rattle.world_core.proofs.Places.{at-place, map-place, same_thing, store-place}

-- the devices, the carried images and the stopped names are as they were
pub delivers-nothing : (touched : ℕ → Name → ℕ → ℕ → Bool) (old new : World) → new.devices ≡ old.devices → new.carried ≡ old.carried → new.stopped ≡ old.stopped → ChangesWorldOnly touched old new
delivers-nothing touched old new devices carried stopped = record {
  devices = λ id. subst (λ (ds : List Device). ChangesOnly (touched id) (device_at old id) (at (λ d. d.id) no_device id ds)) (sym devices) (changes-nothing (touched id) (device_at old id));
  ids = ap (map (λ (d : Device). d.id)) devices;
  carried = carried;
  stopped = stopped;
}

-- a device at a place changed only what bytes may touch there
delivers-at : (old new : World) (place : ℕ) (d d' : Device) (f : Flight) → HaveOwnIds old.devices → slice_get old.devices place ≡ Some d → d'.id ≡ d.id → ChangesOnly (is_touched d f.bytes) d d'
    → new.devices ≡ set old.devices place d' → new.carried ≡ old.carried → new.stopped ≡ old.stopped → ChangesWorldOnly (is_touched_on d f) old new
delivers-at old new place d d' f ids here same only devices carried stopped = record {
  devices = λ id. subst (ChangesOnly (is_touched_on d f id) (device_at old id)) (sym (after id)) (by_id id (eqb_tells d.id id));
  ids = ap (map (λ (x : Device). x.id)) devices ∙ map-place (λ (x : Device). x.id) place old.devices d d' here same;
  carried = carried;
  stopped = stopped;
}
  where
    after : (id : ℕ) → device_at new id ≡ (if d.id == id then d' else device_at old id)
    after id =
        ap (at (λ (x : Device). x.id) no_device id) (devices ∙ sym (store-place (λ (x : Device). x.id) place old.devices d d' ids here))
        ∙ at-store (λ (x : Device). x.id) no_device d.id id d' old.devices same

    before : device_at old d.id ≡ d
    before = at-place (λ (x : Device). x.id) no_device place old.devices d ids here

    by_id : (id : ℕ) → (((d.id == id) ≡ true) × (d.id ≡ id)) ⊎ (((d.id == id) ≡ false) × (d.id ≢ id)) → ChangesOnly (is_touched_on d f id) (device_at old id) (if d.id == id then d' else device_at old id)
    by_id id (inl t) =
        subst (λ (b : Bool). ChangesOnly (is_touched_on d f id) (device_at old id) (if b then d' else device_at old id)) (sym t.0)
        (subst (λ x. ChangesOnly (is_touched_on d f id) x d') (sym before ∙ ap (device_at old) t.1)
        (changes-more (is_touched d f.bytes) (is_touched_on d f id) d d' (λ name lkey k out. ap (λ b. b && is_touched d f.bytes name lkey k) (sym t.0) ∙ out) only))
    by_id id (inr t) =
        subst (λ (b : Bool). ChangesOnly (is_touched_on d f id) (device_at old id) (if b then d' else device_at old id)) (sym t.0) (changes-nothing (is_touched_on d f id) (device_at old id))

-- .. behind what a loan holds
pub delivered-at : (v w new : World) (place : ℕ) (d x x' : Device) (f : Flight) → v ≡ w → HaveOwnIds v.devices → slice_get v.devices place ≡ Some x → x'.id ≡ x.id → ChangesOnly (is_touched x f.bytes) x x'
    → new.devices ≡ set v.devices place x' → new.carried ≡ v.carried → new.stopped ≡ v.stopped → slice_get w.devices place ≡ Some d → ChangesWorldOnly (is_touched_on d f) w new
delivered-at v w new place d x x' f seen ids here same only devices carried stopped there =
    let is_it : x ≡ d = same_thing x d (sym here ∙ (ap (λ (y : World). slice_get y.devices place) seen ∙ there)) in
    subst (λ (y : World). ChangesWorldOnly (is_touched_on d f) y new) seen
    (subst (λ z. ChangesWorldOnly (is_touched_on z f) v new) is_it (delivers-at v new place x x' f ids here same only devices carried stopped))

-- what the datagram may touch, where it comes to that device
pub delivered-by : (w new : World) (n place : ℕ) (end : Option FoundEnd) → ComesTo w n place end
    → ((f : Flight) → (d : Device) → kept_flight w.sent n ≡ Some f → slice_get w.devices place ≡ Some d → ChangesWorldOnly (is_touched_on d f) w new) → ChangesWorldOnly (is_delivered w n) w new
delivered-by w new n place end c only =
    subst (λ (l : Look). ChangesWorldOnly (is_touched_by w l) w new) (sym c.here)
    (subst (λ (o : Option Device). ChangesWorldOnly (is_touched_with o c.flight) w new) (sym c.found) (only c.flight c.device c.kept c.at))

-- an event that is no delivery
abbrev pub IsNoDelivery : WorldEvent → Type 0
IsNoDelivery (event.Deliver n) = ⊥
IsNoDelivery e = Unit {0}

other : (e : WorldEvent) (old new : World) → IsNoDelivery e → DeliversWithin e old new
other (event.Deliver n) old new h = absurd h
other e old new h = tt

pub delivers-otherwise : (e e' : WorldEvent) (old new : World) → e ≡ e' → IsNoDelivery e' → DeliversWithin e old new
delivers-otherwise e e' old new is h = subst (λ x. DeliversWithin x old new) (sym is) (other e' old new h)

pub delivers-other : (e e' : WorldEvent) (old new : World) (r : Result Answer AllocError) → e ≡ e' → IsNoDelivery e' → IfOk r (λ a. DeliversWithin e old new)
delivers-other e e' old new (Ok a) is h = delivers-otherwise e e' old new is h
delivers-other e e' old new (Err x) is h = tt
