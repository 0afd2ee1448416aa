-- What is known where a call runs out of memory, and which calls do not.
use Rattle.std.proofs.Common.{◌≡◌, ℕ, Option, Some, None, refl, sym, ap, ◌∙◌, subst, slice_get}
use Rattle.std.specs.Prelude.{IsOk, OnErr, Result, Ok, Err}
use Rattle.std.specs.declared.alloc.AllocError.{AllocError}
use Rattle.rdma_types.specs.declared.answers.Answer.{Answer}
use Rattle.rdma_types.specs.declared.answers.Refusal.{Refusal}
use Rattle.protocol.specs.declared.events.Event.{Event}
use Rattle.protocol.specs.declared.events.Event.TheVariants as event
use Rattle.protocol.specs.Events.{IsHandedOn}
use Rattle.protocol.specs.Fabric.{kept_flight, look}
use Rattle.protocol.specs.Refusals.{refusal_of}
use Rattle.protocol.specs.State.{Device, Flight, World}
use Rattle.protocol.specs.Wire.{packet_of}
use Rattle.protocol.specs.WorldStep.{device_with, now_of}
use Rattle.device_core.specs.declared.finding.FoundEnd.{FoundEnd}
use Rattle.device_core.specs.Readings.{DoNothing, TakesNoMemory, TakesNoMemoryAt}
use Rattle.law_settling.proofs.steps.Bare.{IsNoStop}
use Rattle.world_core.specs.Causes.{or_later}
use Rattle.world_core.specs.Homes.{mover}
use Rattle.world_core.specs.Kept.{DoNothingOn, TakesNone}
use Rattle.world_core.specs.Sites.{ComesTo}
use Rattle.world_core.proofs.Places.{same_thing}

-- ---- results

pub holds_at_err : {P : Type 0} (r : Result Answer AllocError) → P → OnErr r P
holds_at_err (Ok a) h = tt
holds_at_err (Err f) h = h

pub never_err : (P : Type 0) (r : Result Answer AllocError) → IsOk r → OnErr r P
never_err P (Ok a) h = tt
never_err P (Err f) h = absurd (cc)

-- the device's refusal is not due, and the world has none
pub none_due : (r : Result Answer AllocError) (w : World) (place : ℕ) (d : Device) (e : Event) (first : Option Refusal) → first ≡ None → slice_get w.devices place ≡ Some d →
    OnErr r ((x : Device) → slice_get w.devices place ≡ Some x → refusal_of x e ≡ None) → OnErr r (or_later first (refusal_of d e) ≡ None)
none_due (Ok a) w place d e first none here due = tt
none_due (Err f) w place d e first none here due = ap (λ o. or_later o (refusal_of d e)) none ∙ due d here

-- ---- events

pub handed_stays : (e : Event) → IsHandedOn e → mover e ≡ None
handed_stays (event.MakeContext n) h = absurd h
handed_stays (event.Stop n alone) h = absurd h
handed_stays (event.Restore image) h = absurd h
handed_stays e h = refl

pub no_stop : (e : Event) → mover e ≡ None → IsNoStop e
no_stop (event.Stop n alone) h = absurd (cc)
no_stop e h = tt

pub takes_none_at : (d : Device) (e : Event) → TakesNoMemory e → TakesNoMemoryAt d e
takes_none_at d (event.Arrive from bytes) h = absurd h
takes_none_at d (event.MakeContext n) h = h
takes_none_at d (event.MakeDomain o) h = h
takes_none_at d (event.MakeRegion o domain base length rights) h = h
takes_none_at d (event.MakeCq o capacity) h = h
takes_none_at d (event.MakeQp o domain send_cq recv_cq send_depth recv_depth) h = h
takes_none_at d (event.Connect o peer partner terms) h = h
takes_none_at d (event.DropRegion o) h = h
takes_none_at d (event.Store o at bytes) h = h
takes_none_at d (event.Load o at length) h = h
takes_none_at d (event.PostSend o r) h = h
takes_none_at d (event.PostRecv o r) h = h
takes_none_at d (event.Poll o most) h = h
takes_none_at d (event.Transmit o) h = h
takes_none_at d (event.Expire o) h = h
takes_none_at d (event.RnrOver o) h = h
takes_none_at d (event.Stop n alone) h = h
takes_none_at d (event.Restore image) h = h
takes_none_at d (event.Release n) h = h

-- ---- a datagram that does nothing where it comes

pub comes_nothing : (w : World) (k place : ℕ) (end : Option FoundEnd) → ComesTo w k place end → TakesNone w (look w.sent k (now_of w (kept_flight w.sent k))) →
    (f : Flight) (d : Device) → kept_flight w.sent k ≡ Some f → slice_get w.devices place ≡ Some d → DoNothing d (packet_of f.bytes)
comes_nothing w k place end c none f d kept here =
    let there : DoNothingOn (device_with w c.flight.to) c.flight.bytes = subst (λ l. TakesNone w l) c.here none in
    let nothing : DoNothing c.device (packet_of c.flight.bytes) = subst (λ o. DoNothingOn o c.flight.bytes) c.found there in
    subst (λ (g : Flight). DoNothing d (packet_of g.bytes)) (same_thing c.flight f (sym c.kept ∙ kept))
    (subst (λ x. DoNothing x (packet_of c.flight.bytes)) (same_thing c.device d (sym c.at ∙ here)) nothing)
