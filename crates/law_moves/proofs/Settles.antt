-- Settling leaves each context on its device.
use Rattle.std.proofs.Common.{◌≡◌, ℕ, ◌==◌, List, [], ◌∷◌, map, true, false, Bool, refl, ap, ◌∙◌, subst, ◌⊎◌, inl, inr}
use Rattle.std.specs.Prelude.{◌&&◌, not, if◌then◌else◌, All, Option, Some, None}
use Rattle.std.proofs.lemmas.List.Elements.{All-cons, All-head, All-nil, All-tail}
use Rattle.rdma_types.specs.declared.answers.Answer.{Answer}
use Rattle.rdma_types.specs.declared.answers.ExpiryIgnored.{ExpiryIgnored}
use Rattle.rdma_types.specs.declared.answers.Sent.{Sent}
use Rattle.rdma_types.specs.declared.answers.Refusal.{Refusal}
use Rattle.rdma_types.specs.declared.answers.Refusal.TheVariants as refusal
use Rattle.rdma_types.specs.declared.names.Name.{Name}
use Rattle.rdma_types.specs.declared.requests.WcStatus.{WcStatus}
use Rattle.rdma_types.specs.Causes.{Cause, cause, first_cause}
use Rattle.rdma_types.specs.Lists.{first_that, store}
use Rattle.protocol.specs.declared.events.Event.{Event}
use Rattle.protocol.specs.declared.events.Event.TheVariants as event
use Rattle.protocol.specs.declared.events.WorldEvent.{WorldEvent}
use Rattle.protocol.specs.declared.events.WorldEvent.TheVariants as world_event
use Rattle.protocol.specs.declared.images.ContextImage.{ContextImage}
use Rattle.protocol.specs.DeviceStep as device
use Rattle.protocol.specs.DeviceStep.{device_step}
use Rattle.protocol.specs.EndWords.{completing, linked, with_end, with_queue}
use Rattle.protocol.specs.Fabric.{Look, Here, IsGone, IsLost, IsAged, kept_flight, look}
use Rattle.protocol.specs.Refusals.{has_context, has_husk, refusal_of, within}
use Rattle.protocol.specs.Requester.{ended_with, Transmission, SendsResume, Waits, IsIdle, WindowIsFull, ReadsAreFull, IsFenced, Sends, not_counted, transmission}
use Rattle.protocol.specs.Script.{Settles, happens, settles}
use Rattle.protocol.specs.Settle.{settled}
use Rattle.protocol.specs.State.{Context, Device, End, Flight, Link, World, context_at, no_context}
use Rattle.protocol.specs.WorldStep as step
use Rattle.protocol.specs.WorldStep.{device_with, home, is_live, now_of, ran, runs, with_device, with_image, with_sent, with_taken, world_after, world_step}
use Rattle.packetless_machine.specs.Legal.{after}
use Rattle.packetless_machine.specs.Machine.{Machine}
use Rattle.law_simulation.specs.Law.{FollowsRun, joined_steps}
use Rattle.law_simulation.specs.Stands.{Stands}
use Rattle.law_simulation.proofs.relation.Refusing.{context_is_there, first_no, later_no, name_at, not_lacking}
use Rattle.law_simulation.proofs.relation.Tables.{map-store_found, name-named_there}
use Rattle.law_simulation.proofs.relation.Worlds.{holds_it, home_found, ids_once, shape_of, shapes_of}
use Rattle.law_settling.specs.Settling.{ComesOf, IsSettling, IsTurn, SettlingFollows, SettlingIsEvents}
use Rattle.law_settling.proofs.bound.Delivering.{ran_devices}
use Rattle.law_settling.proofs.steps.Bare.{bare}
use Rattle.law_settling.specs.Weights.{TakingLightens}
use Rattle.law_settling.proofs.sending_stops.Arrivals.{IsQuietStep, Lands, delivers_either, shape_kept}

-- ---- one device

-- a step leaves the device's id, address, husks and the names of its contexts, and carries nothing off
record Keeps (d : Device) (s : device.Step) : Type 0 where
  shape : shape_of s.device ≡ shape_of d
  none : s.outcome.image ≡ None

linked_named : (c : Context) (e : End) (l : Link) → (linked c e l).name ≡ c.name
unfolding with_end
linked_named c e l = refl

ended_named : (c : Context) (e : End) (l : Link) (status : WcStatus) → (ended_with c e l status).name ≡ c.name
unfolding ended_with completing with_queue with_end
ended_named c e l status = refl

module _ (d : Device) where
  same : (a : Answer) (sent : List Sent) → Keeps d (device.gives d a sent)
  same a sent = record { shape = refl; none = refl }

  with_one : (n : Name) (c : Context) (a : Answer) (sent : List Sent) → has_context d n ≡ true → c.name ≡ n → Keeps d (device.gives (device.with_context d c) a sent)
  with_one n c a sent is name = record { shape = shape_kept d n c name is; none = refl }

  either_step : (b : Bool) (s t : device.Step) → Keeps d s → Keeps d t → Keeps d (if b then s else t)
  either_step true s t h k = h
  either_step false s t h k = k

  sent : (n : Name) (e : End) (l : Link) (t : Transmission) → has_context d n ≡ true → Keeps d (device.sends_by d (context_at d n) e l t)
  unfolding device.sends_piece
  sent n e l SendsResume is = same _ _
  sent n e l Waits is = same _ _
  sent n e l IsIdle is = same _ _
  sent n e l WindowIsFull is = same _ _
  sent n e l ReadsAreFull is = same _ _
  sent n e l IsFenced is = same _ _
  sent n e l (Sends x) is = with_one n _ _ _ is (linked_named (context_at d n) e _ ∙ name_at d n is)

  transmitted : (n : Name) (e : End) (l : Option Link) → has_context d n ≡ true → Keeps d (device.at_link d l (λ k. device.sends_by d (context_at d n) e k (transmission k)))
  transmitted n e None is = same _ _
  transmitted n e (Some l) is = sent n e l (transmission l) is

  expired : (n : Name) (e : End) (l : Link) (o : Option ExpiryIgnored) → has_context d n ≡ true → Keeps d (device.expires_by d (context_at d n) e l o)
  unfolding device.counts
  expired n e l (Some w) is = same _ _
  expired n e l None is =
      either_step (l.sender.spent == l.terms.retry) _ _
      (with_one n _ _ _ is (ended_named (context_at d n) e l _ ∙ name_at d n is))
      (with_one n _ _ _ is (linked_named (context_at d n) e _ ∙ name_at d n is))

  expired_at : (n : Name) (e : End) (l : Option Link) → has_context d n ≡ true → Keeps d (device.at_link d l (λ k. device.expires_by d (context_at d n) e k (not_counted k)))
  expired_at n e None is = same _ _
  expired_at n e (Some l) is = expired n e l (not_counted l) is

  over : (n : Name) (e : End) (l : Option Link) → has_context d n ≡ true → Keeps d (device.at_link d l (λ k. device.waits_out d (context_at d n) e k))
  over n e None is = same _ _
  over n e (Some l) is = either_step l.sender.rnr_wait _ _ (with_one n _ _ _ is (linked_named (context_at d n) e _ ∙ name_at d n is)) (same _ _)

  -- a transmission, an expiry or the end of an RNR timer
  turned : (e : Event) → IsTurn e → (r : Option Refusal) → refusal_of d e ≡ r → Keeps d (device.by_refusal d e r)
  unfolding refusal_of device.transmits device.expires device.rnr_over
  turned e is (Some r) h = same _ _
  turned (event.Transmit o) is None h = transmitted o.context _ _ (context_is_there d o.context _ h)
  turned (event.Expire o) is None h = expired_at o.context _ _ (context_is_there d o.context _ h)
  turned (event.RnrOver o) is None h = over o.context _ _ (context_is_there d o.context _ h)
  turned other is None h = absurd is

  turn_keeps : (e : Event) → IsTurn e → Keeps d (device_step d e)
  unfolding device_step
  turn_keeps e is = turned e is (refusal_of d e) refl

-- ---- a world

-- a world keeps the names of the contexts of each device, its carried images and what was stopped
pub record IsKept (w w' : World) : Type 0 where
  pub shapes : shapes_of w' ≡ shapes_of w
  pub carried : w'.carried ≡ w.carried
  pub stopped : w'.stopped ≡ w.stopped

-- the laws of settling
pub record SettlingLaws : Type 0 where
  pub made : SettlingIsEvents
  pub follows : SettlingFollows
  pub lightens : TakingLightens

kept_itself : (w : World) → IsKept w w
kept_itself w = record { shapes = refl; carried = refl; stopped = refl }

-- two parts of a world that carry nothing off
record IsCalm (w w' : World) : Type 0 where
  carried : w'.carried ≡ w.carried
  stopped : w'.stopped ≡ w.stopped

with_none : (w : World) (o : Option ContextImage) → o ≡ None → (with_image o w).carried ≡ w.carried
with_none w o is = ap (λ x. (with_image x w).carried) is

with_none_stopped : (w : World) (o : Option ContextImage) → o ≡ None → (with_image o w).stopped ≡ w.stopped
with_none_stopped w o is = ap (λ x. (with_image x w).stopped) is

ran_calm : (w v : World) (s : device.Step) → v.carried ≡ w.carried → v.stopped ≡ w.stopped → s.outcome.image ≡ None → IsCalm w (ran v s).world
unfolding ran with_device
ran_calm w v s carried stopped none = record {
  carried = with_none (with_device (with_sent v s.device.address s) s.device) s.outcome.image none ∙ carried;
  stopped = with_none_stopped (with_device (with_sent v s.device.address s) s.device) s.outcome.image none ∙ stopped;
}

ran_kept : (w : World) (m : Machine) (test : Device → Bool) (d : Device) (s : device.Step) → Stands w m → first_that test w.devices ≡ Some d → Keeps d s → IsKept w (ran w s).world
ran_kept w m test d s stands found k =
    let calm : IsCalm w (ran w s).world = ran_calm w w s refl refl k.none in
    record {
      shapes =
          ap (map shape_of) (ran_devices w s)
          ∙ (ap (λ j. map shape_of (store (λ e. e.id) j s.device w.devices)) (ap (λ z. z.id) k.shape)
          ∙ map-store_found shape_of (λ e. e.id) test d s.device w.devices (ids_once w m stands.placed) found k.shape);
      carried = calm.carried;
      stopped = calm.stopped;
    }

module _ (laws : SettlingLaws) (w : World) (m : Machine) (stands : Stands w m) where
  turn_by : (e : Event) → IsTurn e → (n : Name) (r : Option Refusal) → first_cause (step.context_causes w n []) ≡ r → IsKept w (step.by_refusal w r (runs w (home w n) e)).world
  turn_by e is n (Some r) h = kept_itself w
  turn_by e is n None h =
      let live : is_live w n ≡ true = not_lacking _ (first_no refusal.Stopped _ _ (later_no refusal.NoSuch _ _ h)) in
      ran_kept w m (holds_it n) (home w n) (device_step (home w n) e) stands (home_found w n live) (turn_keeps (home w n) e is)

  reached_by : (k : ℕ) (f : Flight) (o : Option Device) → IsCalm w (step.reaches (with_taken w k) f o).world
  reached_by k f None = record { carried = refl; stopped = refl }
  reached_by k f (Some d) = ran_calm w (with_taken w k) (device_step d (event.Arrive f.from f.bytes)) refl refl (bare d (event.Arrive f.from f.bytes) tt)

  delivered_by : (k : ℕ) (l : Look) → IsCalm w (step.delivers_by w k l).world
  delivered_by k IsGone = record { carried = refl; stopped = refl }
  delivered_by k IsLost = record { carried = refl; stopped = refl }
  delivered_by k IsAged = record { carried = refl; stopped = refl }
  delivered_by k (Here f) = reached_by k f (device_with w f.to)

  shapes_by : (k : ℕ) → IsQuietStep w (world_step w (world_event.Deliver k)).world ⊎ Lands w m k (world_step w (world_event.Deliver k)).world → shapes_of (world_step w (world_event.Deliver k)).world ≡ shapes_of w
  shapes_by k (inl quiet) = quiet.shapes
  shapes_by k (inr lands) = lands.shapes

  delivery_calm : (k : ℕ) → IsCalm w (world_step w (world_event.Deliver k)).world
  unfolding world_step step.delivers
  delivery_calm k = delivered_by k (look w.sent k (now_of w (kept_flight w.sent k)))

  delivery_kept : (k : ℕ) → IsKept w (world_step w (world_event.Deliver k)).world
  delivery_kept k =
      let calm : IsCalm w (world_step w (world_event.Deliver k)).world = delivery_calm k in
      record { shapes = shapes_by k (delivers_either laws.lightens w m k stands); carried = calm.carried; stopped = calm.stopped }

  settling_keeps : (e : WorldEvent) → IsSettling e → IsKept w (world_step w e).world
  unfolding world_step step.steps_at
  settling_keeps (world_event.At e) is = turn_by e is (step.context_of_event e) _ refl
  settling_keeps (world_event.Deliver k) is = delivery_kept k
  settling_keeps other is = absurd is

  next_stands : (e : WorldEvent) → IsSettling e → (m' : Machine) × Stands (world_step w e).world m'
  unfolding world_after
  next_stands e is = let run : FollowsRun w m (e ∷ []) = laws.follows w m (e ∷ []) (All-cons IsSettling e [] is (All-nil IsSettling)) stands in (after m (joined_steps run.steps), run.stands)

kept_then : (a b c : World) → IsKept a b → IsKept b c → IsKept a c
kept_then a b c h k = record { shapes = k.shapes ∙ h.shapes; carried = k.carried ∙ h.carried; stopped = k.stopped ∙ h.stopped }

-- some events of settling
pub events_keep : SettlingLaws → (w : World) (m : Machine) (es : List WorldEvent) → Stands w m → All IsSettling es → IsKept w (world_after w es)
unfolding world_after
events_keep laws w m [] stands each = kept_itself w
events_keep laws w m (e ∷ es) stands each =
    let is : IsSettling e = All-head IsSettling e es each in
    let next = next_stands laws w m stands e is in
    kept_then w (world_step w e).world (world_after (world_step w e).world es) (settling_keeps laws w m stands e is)
    (events_keep laws (world_step w e).world next.0 es next.1 (All-tail IsSettling e es each))

-- .. and all of them
pub settling_is_kept : SettlingLaws → (w : World) (m : Machine) → Stands w m → IsKept w (happens w Settles).world
unfolding happens settles
settling_is_kept laws w m stands = let c : ComesOf w (settled w).world = laws.made w in subst (IsKept w) c.after (events_keep laws w m c.events stands c.each)
