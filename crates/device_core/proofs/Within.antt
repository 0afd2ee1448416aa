-- What an event of network or time may have changed, from what is told of it.
use Rattle.std.proofs.Common.{ap, subst, sym}
use Rattle.std.specs.Prelude.{Result, Ok, Err}
use Rattle.protocol.specs.declared.events.Event.{Event}
use Rattle.protocol.specs.declared.images.Outcome.{Outcome}
use Rattle.protocol.specs.DeviceStep.{Step, device_step}
use Rattle.protocol.specs.State.{Device}
use Rattle.context_core.specs.declared.ContextFault.{ContextFault}
use Rattle.context_core.specs.declared.ContextFault.TheVariants.{Refused, OutOfMemory}
use Rattle.law_arrivals.specs.Touched.{ChangesOnly}
use Rattle.law_arrivals.specs.Turns.{IsOfTurn, is_touched_by_event}
use Rattle.law_arrivals.proofs.Arriving.{changes-nothing}
use Rattle.device_core.specs.Done.{IsDone}

-- events of network and time change only what they may
abbrev pub AreWithin : Device → Type 0
AreWithin d = (e : Event) → IsOfTurn e → ChangesOnly (is_touched_by_event d e) d (device_step d e).device

pub stepped-within : (d new : Device) (e : Event) (told : Result Outcome ContextFault) → AreWithin d → IsDone d e new told → IsOfTurn e → ChangesOnly (is_touched_by_event d e) d new
stepped-within d new e (Ok o) within done turn = subst (ChangesOnly (is_touched_by_event d e) d) (ap (λ (s : Step). s.device) done) (within e turn)
stepped-within d new e (Err (Refused r)) within done turn = subst (ChangesOnly (is_touched_by_event d e) d) (sym done.1) (changes-nothing (is_touched_by_event d e) d)
stepped-within d new e (Err OutOfMemory) within done turn = subst (ChangesOnly (is_touched_by_event d e) d) (sym done.0) (changes-nothing (is_touched_by_event d e) d)
