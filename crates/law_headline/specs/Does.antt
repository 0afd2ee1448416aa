-- What a line of a script does in a world: an event of it, a dump, or settling (this project's choice).
use Rattle.std.specs.Prelude.{Bool, true, false, List, [], ◌∷◌, Option, Some, None}
use Rattle.rdma_types.specs.declared.verbs.Verb.{Verb}
use Rattle.rdma_types.specs.declared.verbs.Verb.TheVariants as verb
use Rattle.protocol.specs.declared.events.Event.TheVariants as event
use Rattle.protocol.specs.declared.events.WorldEvent.{WorldEvent}
use Rattle.protocol.specs.declared.events.WorldEvent.TheVariants as world_event
use Rattle.protocol.specs.Events.{IsLawfulWorldEvent}
use Rattle.protocol.specs.Script.{Happening, Event, Dump, Settles}
use Rattle.script_lang.specs.declared.lines.Line.{Line}
use Rattle.script_lang.specs.declared.lines.Line.TheVariants as line
use Rattle.law_simulation.specs.Law.{IsInRange}

-- the event that a verb is; the verb of a new context names no device, and no line says it
abbrev pub event_of : Verb → Option WorldEvent
event_of (verb.Context name made) = None
event_of (verb.Connect one two terms) = Some (world_event.Connect one two terms)
event_of (verb.MakeDomain o) = Some (world_event.At (event.MakeDomain o))
event_of (verb.MakeRegion o domain base size rights) = Some (world_event.At (event.MakeRegion o domain base size rights))
event_of (verb.MakeCq o capacity) = Some (world_event.At (event.MakeCq o capacity))
event_of (verb.MakeQp o domain send_cq recv_cq send_depth recv_depth) = Some (world_event.At (event.MakeQp o domain send_cq recv_cq send_depth recv_depth))
event_of (verb.DropRegion o) = Some (world_event.At (event.DropRegion o))
event_of (verb.Store o at bytes) = Some (world_event.At (event.Store o at bytes))
event_of (verb.Load o at size) = Some (world_event.At (event.Load o at size))
event_of (verb.PostSend o request) = Some (world_event.At (event.PostSend o request))
event_of (verb.PostRecv o receive) = Some (world_event.At (event.PostRecv o receive))
event_of (verb.Poll o max) = Some (world_event.At (event.Poll o max))

-- an event happens, where there is one
abbrev pub event_happens : Option WorldEvent → Option Happening
event_happens None = None
event_happens (Some e) = Some (Event e)

-- what a line does; a blank line does nothing
abbrev pub happening_of : Line → Option Happening
happening_of line.Blank = None
happening_of (line.Verb v) = event_happens (event_of v)
happening_of (line.Device id address) = Some (Event (world_event.AddDevice id address))
happening_of (line.Context name device) = Some (Event (world_event.MakeContext name device))
happening_of (line.Go o) = Some (Event (world_event.At (event.Transmit o)))
happening_of (line.Deliver k) = Some (Event (world_event.Deliver k))
happening_of (line.Lose k) = Some (Event (world_event.Lose k))
happening_of (line.Wire k) = Some (Event (world_event.Wire k))
happening_of (line.Expire o) = Some (Event (world_event.At (event.Expire o)))
happening_of (line.Rnr o) = Some (Event (world_event.At (event.RnrOver o)))
happening_of (line.Stop name) = Some (Event (world_event.Stop name))
happening_of (line.Restore name device) = Some (Event (world_event.Restore name device))
happening_of (line.Release name device) = Some (Event (world_event.Release name device))
happening_of (line.Dump name) = Some (Dump name)
happening_of line.Settle = Some Settles

-- a line that is not blank is answered
abbrev pub is_answered : Line → Bool
is_answered line.Blank = false
is_answered other = true

-- one more before the others, where there is one
abbrev pub before : Option Happening → List Happening → List Happening
before None hs = hs
before (Some h) hs = h ∷ hs

-- what lines do, one after the other
abbrev pub happenings_of : List Line → List Happening
happenings_of [] = []
happenings_of (l ∷ ls) = before (happening_of l) (happenings_of ls)

-- ---- ranges

-- the fields of an event are in their ranges; dumps and settling have none
abbrev pub IsWithin : Happening → Type 0
IsWithin (Event e) = IsInRange e
IsWithin (Dump name) = Unit {0}
IsWithin Settles = Unit {0}

-- .. of what a line does
abbrev pub IsWithinOf : Option Happening → Type 0
IsWithinOf None = Unit {0}
IsWithinOf (Some h) = IsWithin h

-- what a line does is in its ranges
abbrev pub IsLineInRange : Line → Type 0
IsLineInRange l = IsWithinOf (happening_of l)

-- a step of a world may be asked for an event
abbrev pub MayBeAsked : Happening → Type 0
MayBeAsked (Event e) = IsLawfulWorldEvent e
MayBeAsked (Dump name) = Unit {0}
MayBeAsked Settles = Unit {0}

-- .. for what a line does
abbrev pub MayBeAskedOf : Option Happening → Type 0
MayBeAskedOf None = Unit {0}
MayBeAskedOf (Some h) = MayBeAsked h
