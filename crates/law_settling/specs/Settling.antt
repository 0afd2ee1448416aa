-- The events that settling is made of.
use Rattle.std.specs.Prelude.{◌≡◌, List, All}
use Rattle.protocol.specs.declared.events.Event.{Event}
use Rattle.protocol.specs.declared.events.Event.TheVariants.{Transmit, Expire, RnrOver}
use Rattle.protocol.specs.declared.events.WorldEvent.{WorldEvent}
use Rattle.protocol.specs.declared.events.WorldEvent.TheVariants.{At, Deliver}
use Rattle.protocol.specs.State.{World}
use Rattle.protocol.specs.WorldStep.{world_after}
use Rattle.protocol.specs.Settle.{settled}
use Rattle.packetless_machine.specs.Machine.{Machine}
use Rattle.law_simulation.specs.Stands.{Stands}
use Rattle.law_simulation.specs.Law.{FollowsRun}
use Rattle.law_simulation.specs.Named.{RunFollowsByName}
use Rattle.law_settling.specs.Events.{settling_events}

-- a transmission, an expiry, or the end of an RNR timer
abbrev pub IsTurn : Event → Type 0
IsTurn (Transmit o) = Unit {0}
IsTurn (Expire o) = Unit {0}
IsTurn (RnrOver o) = Unit {0}
IsTurn other = ⊥

-- .. or a delivery
abbrev pub IsSettling : WorldEvent → Type 0
IsSettling (Deliver k) = Unit {0}
IsSettling (At e) = IsTurn e
IsSettling other = ⊥

-- one world comes of another by such events
pub record ComesOf (w w' : World) : Type 0 where
  pub events : List WorldEvent
  pub each : All IsSettling events
  pub after : world_after w events ≡ w'

-- settling is made of such events
abbrev pub SettlingIsEvents : Type 0
SettlingIsEvents = (w : World) → ComesOf w (settled w).world

-- the machine follows any of them, one after the other, so that the world stands for one of its states after each
abbrev pub SettlingFollows : Type 0
SettlingFollows = (w : World) (m : Machine) (es : List WorldEvent) → All IsSettling es → Stands w m → FollowsRun w m es

-- ---- by name

-- the events of a settling are such events, and lead to the settled world
pub record IsMade (w : World) : Type 0 where
  pub each : All IsSettling (settling_events w)
  pub after : world_after w (settling_events w) ≡ (settled w).world

-- .. of each settling
abbrev pub SettlingHasEvents : Type 0
SettlingHasEvents = (w : World) → IsMade w

-- the machine follows them by the steps that are named
abbrev pub SettlingFollowsByName : Type 0
SettlingFollowsByName = (w : World) (m : Machine) → Stands w m → RunFollowsByName w m (settling_events w)
