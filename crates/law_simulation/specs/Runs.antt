-- What the laws of single events say of whole runs.
use Rattle.std.specs.Prelude.{List, All}
use Rattle.protocol.specs.declared.events.WorldEvent.{WorldEvent}
use Rattle.protocol.specs.State.{World, empty_world}
use Rattle.packetless_machine.specs.Machine.{Machine, empty}
use Rattle.packetless_machine.specs.Legal.{IsLegal}
use Rattle.law_simulation.specs.Stands.{Stands}
use Rattle.law_simulation.specs.Law.{AlwaysFollows, FollowsRun, IsInRange, kept}

-- from each machine state for which a world stands, the machine follows a run in range of events that it always follows
abbrev pub RunsFollow : Type 0
RunsFollow = (w : World) (m : Machine) (es : List WorldEvent) → All AlwaysFollows es → All IsInRange es → Stands w m → FollowsRun w m es

-- what applications hear in a run that is followed from the empty world is legal
abbrev pub IsHeardLegal : Type 0
IsHeardLegal = (es : List WorldEvent) → FollowsRun empty_world empty es → IsLegal (kept empty_world es)
