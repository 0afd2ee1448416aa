-- Worlds whose devices and carried images keep the rules of images, and the lines of scripts that keep them so (this project's
-- choice).
use Rattle.std.specs.Prelude.{◌≡◌, true, All, Option, Some, None}
use Rattle.rdma_types.specs.Spelled.{is_name}
use Rattle.protocol.specs.declared.events.WorldEvent.{WorldEvent}
use Rattle.protocol.specs.declared.events.WorldEvent.TheVariants as world_event
use Rattle.protocol.specs.Lawful.{IsLawful}
use Rattle.protocol.specs.Script.{Happening, Event, Dump, Settles}
use Rattle.protocol.specs.State.{World}
use Rattle.law_devices.specs.Sound.{GivesNames, IsSoundDevice}
use Rattle.law_headline.specs.Does.{IsWithin, MayBeAsked}

-- each device is sound, and each carried image keeps the rules
pub record IsSoundWorld (w : World) : Type 0 where
  pub devices : All IsSoundDevice w.devices
  pub carried : All IsLawful w.carried

-- the names that an event of a world gives to new things are names, as their type has it
abbrev pub NamesThings : WorldEvent → Type 0
NamesThings (world_event.MakeContext name device) = is_name name ≡ true
NamesThings (world_event.At e) = GivesNames e
NamesThings e = Unit {0}

-- .. those that a line gives
abbrev pub NamesThingsIn : Happening → Type 0
NamesThingsIn (Event e) = NamesThings e
NamesThingsIn (Dump name) = Unit {0}
NamesThingsIn Settles = Unit {0}

-- a line may be said: its fields are in their ranges, a step of a world may be asked for it, and it gives names
pub record MayBeSaid (h : Happening) : Type 0 where
  pub within : IsWithin h
  pub asked : MayBeAsked h
  pub named : NamesThingsIn h

-- .. for what a line does
abbrev pub MayBeSaidOf : Option Happening → Type 0
MayBeSaidOf None = Unit {0}
MayBeSaidOf (Some h) = MayBeSaid h
