-- Settling carries no image off, and puts none back.
use Rattle.std.proofs.Common.{◌≡◌, ℕ, refl, ap, ◌∙◌}
use Rattle.std.specs.Prelude.{Option, Some, None}
use Rattle.rdma_types.specs.declared.answers.Refusal.{Refusal}
use Rattle.protocol.specs.declared.events.Event.{Event}
use Rattle.protocol.specs.declared.events.Event.TheVariants as events
use Rattle.protocol.specs.declared.events.WorldEvent.{WorldEvent}
use Rattle.protocol.specs.declared.events.WorldEvent.TheVariants as world_events
use Rattle.protocol.specs.DeviceStep as device
use Rattle.protocol.specs.DeviceStep.{device_step}
use Rattle.protocol.specs.Fabric.{Look, IsGone, IsLost, IsAged, Here, kept_flight, look}
use Rattle.protocol.specs.State.{World, Device, Flight}
use Rattle.protocol.specs.WorldStep as step
use Rattle.protocol.specs.WorldStep.{context_of_event, device_with, home, now_of, ran, runs, with_taken, world_step}
use Rattle.protocol.specs.Settle.{settled}
use Rattle.law_settling.specs.Settling.{IsSettling, IsTurn}
use Rattle.law_settling.proofs.steps.Bare.{IsBare, bare}
use Rattle.law_settling.proofs.steps.Made.{settled_keeps}

-- a turn is no stop
turn_bare : (d : Device) (e : Event) → IsTurn e → IsBare (device_step d e)
turn_bare d (events.Transmit o) u = bare d (events.Transmit o) tt
turn_bare d (events.Expire o) u = bare d (events.Expire o) tt
turn_bare d (events.RnrOver o) u = bare d (events.RnrOver o) tt
turn_bare d other u = absurd u

ran_carries : (w : World) (s : device.Step) → IsBare s → (ran w s).world.carried ≡ w.carried
unfolding ran step.with_device
ran_carries w s h = ap (λ i. (step.with_image i (step.with_device (step.with_sent w s.device.address s) s.device)).carried) h

refusal_carries : (w : World) (r : Option Refusal) (s : step.Step) → s.world.carried ≡ w.carried → (step.by_refusal w r s).world.carried ≡ w.carried
refusal_carries w (Some r) s h = refl
refusal_carries w None s h = h

reaches_carries : (w : World) (f : Flight) (d : Option Device) → (step.reaches w f d).world.carried ≡ w.carried
reaches_carries w f None = refl
reaches_carries w f (Some d) = ran_carries w (device_step d (events.Arrive f.from f.bytes)) (bare d (events.Arrive f.from f.bytes) tt)

look_carries : (w : World) (k : ℕ) (x : Look) → (step.delivers_by w k x).world.carried ≡ w.carried
look_carries w k IsGone = refl
look_carries w k IsLost = refl
look_carries w k IsAged = refl
look_carries w k (Here f) = reaches_carries (with_taken w k) f (device_with w f.to)

step_carries : (w : World) (e : WorldEvent) → IsSettling e → (world_step w e).world.carried ≡ w.carried
unfolding world_step step.steps_at step.delivers
step_carries w (world_events.Deliver k) u = look_carries w k (look w.sent k (now_of w (kept_flight w.sent k)))
step_carries w (world_events.At e) u = let d : Device = home w (context_of_event e) in refusal_carries w _ (runs w d e) (ran_carries w (device_step d e) (turn_bare d e u))
step_carries w other u = absurd u

-- the carried images are the same after settling
pub carried_same : (w : World) → (settled w).world.carried ≡ w.carried
carried_same w = settled_keeps (λ v. v.carried ≡ w.carried) (λ v e is h. step_carries v e is ∙ h) w refl
