-- What turns of serving may change: of their events only arrivals touch memory (this project's choice).
use Rattle.std.specs.Prelude.{ℕ, ◌||◌, Bool, false, List, [], ◌∷◌}
use Rattle.rdma_types.specs.declared.names.Name.{Name}
use Rattle.protocol.specs.declared.events.Event.{Event}
use Rattle.protocol.specs.declared.events.Event.TheVariants as event
use Rattle.protocol.specs.DeviceStep.{device_step}
use Rattle.protocol.specs.State.{Device}
use Rattle.law_arrivals.specs.Touched.{is_touched}

-- an event of network or time: an arrival, a transmission, an expiry, or the end of an RNR timer
abbrev pub IsOfTurn : Event → Type 0
IsOfTurn (event.Arrive from bytes) = Unit {0}
IsOfTurn (event.Transmit o) = Unit {0}
IsOfTurn (event.Expire o) = Unit {0}
IsOfTurn (event.RnrOver o) = Unit {0}
IsOfTurn other = ⊥

-- what such an event may change: an arrival what its bytes may, the others nothing
abbrev pub is_touched_by_event : Device → Event → Name → ℕ → ℕ → Bool
is_touched_by_event d (event.Arrive from bytes) name lkey k = is_touched d bytes name lkey k
is_touched_by_event d other name lkey k = false

-- one of these events may change the byte, on the device as it stands at that event
unfoldable pub is_touched_in : Device → List Event → Name → ℕ → ℕ → Bool
is_touched_in d [] name lkey k = false
is_touched_in d (e ∷ es) name lkey k = is_touched_by_event d e name lkey k || is_touched_in (device_step d e).device es name lkey k
