-- How the packetless machine follows the lines of a script.
use Rattle.std.specs.Prelude.{ℕ, ◌≡◌, List, [], ◌∷◌, ◌++◌, All}
use Rattle.protocol.specs.declared.events.WorldEvent.{WorldEvent}
use Rattle.protocol.specs.Script.{Happening, Event, Dump, Settles, happens}
use Rattle.protocol.specs.Settle.{settled}
use Rattle.protocol.specs.State.{World, empty_world}
use Rattle.protocol.specs.WorldStep.{world_step, world_after}
use Rattle.packetless_machine.specs.declared.steps.MachineStep.{MachineStep}
use Rattle.packetless_machine.specs.Legal.{IsLegal, IsRun, after, seen}
use Rattle.packetless_machine.specs.Machine.{Machine, empty}
use Rattle.law_simulation.specs.Carries.{Allows}
use Rattle.law_simulation.specs.Law.{AllowsAll, inner_of, joined_steps}
use Rattle.law_simulation.specs.Named.{event_steps, run_steps}
use Rattle.law_simulation.specs.Stands.{Stands}
use Rattle.law_settling.specs.Events.{settling_events}
use Rattle.law_settling.specs.Settling.{IsSettling}
use Rattle.law_headline.specs.Script.{happenings, heard, heard_of}

-- the steps are those that a settling may cause: part by part those of its deliveries, transmissions, expiries and ends of
-- RNR timers, which lead to the settled world
pub record AreOfSettling (w : World) (m : Machine) (ss : List MachineStep) : Type 0 where
  pub events : List WorldEvent
  pub each : All IsSettling events
  pub reached : world_after w events ≡ (settled w).world
  pub parts : List (List MachineStep)  -- those of each event
  pub joined : ss ≡ joined_steps parts
  pub allowed : AllowsAll w m events parts

-- the inner steps among the steps are those that a line may cause; a dump causes none
abbrev pub Causes : World → Machine → Happening → List MachineStep → Type 0
Causes w m (Event e) ss = Allows w m e (world_step w e).answer (inner_of ss)
Causes w m (Dump name) ss = ss ≡ []
Causes w m Settles ss = AreOfSettling w m ss

-- the steps of the machine at a line: those that are named at its event, and none at a dump; at a settling those at each of the
-- deliveries, transmissions, expiries and ends of RNR timers that it is made of, in their order
abbrev pub line_steps : World → Machine → Happening → List MachineStep
line_steps w m (Event e) = event_steps w m e
line_steps w m (Dump name) = []
line_steps w m Settles = run_steps w m (settling_events w)

-- the machine follows a line by exactly these steps: it may make them, an application hears of them what it hears of the line,
-- the line may cause them, and the next world stands for the machine after them
pub record FollowsLine (w : World) (m : Machine) (h : Happening) : Type 0 where
  pub is_run : IsRun m (line_steps w m h)
  pub heard : seen m (line_steps w m h) ≡ heard_of w h
  pub caused : Causes w m h (line_steps w m h)
  pub stands : Stands (happens w h).world (after m (line_steps w m h))

-- the machine follows the lines, one after the other, and the last world stands for the state that it comes to
abbrev pub FollowsAll : World → Machine → List Happening → Type 0
FollowsAll w m [] = Stands w m
FollowsAll w m (h ∷ hs) = FollowsLine w m h × FollowsAll (happens w h).world (after m (line_steps w m h)) hs

-- the steps at all lines, one after the other
unfoldable pub lines_steps : World → Machine → List Happening → List MachineStep
lines_steps w m [] = []
lines_steps w m (h ∷ hs) = line_steps w m h ++ lines_steps (happens w h).world (after m (line_steps w m h)) hs

-- the headline: the packetless machine follows the lines of the text before its first bad one, each by exactly the steps that are
-- named at it, which the line may cause, and what applications made and heard is legal for it
pub record IsFollowed (text : List ℕ) : Type 0 where
  pub follows : FollowsAll empty_world empty (happenings text)
  pub legal : IsLegal (heard text)
