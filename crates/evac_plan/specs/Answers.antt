-- What a call tells of an evacuation.
use Rattle.std.specs.Prelude.{◌≡◌, ℕ, List, [], ◌++◌, Some}
use Rattle.protocol.specs.declared.events.WorldEvent.{WorldEvent}
use Rattle.protocol.specs.Script.{Happening}
use Rattle.protocol.specs.State.{World}
use Rattle.protocol.specs.WorldStep.{world_after}
use Rattle.packetless_machine.specs.Machine.{Machine}
use Rattle.law_simulation.specs.Law.{FollowsRun}
use Rattle.law_simulation.specs.Stands.{Stands}
use Rattle.law_kept_datagrams.specs.Alike.{with_kept_datagrams}
use Rattle.law_headline.specs.Follows.{FollowsAll}
use Rattle.law_headline.specs.Script.{world_left}
use Rattle.law_moves.specs.Evacuated.{IsLeftWith}
use Rattle.evac_rules.specs.Evacuation.{Evacuation, NoSuch, Stays, begun, evacuation}
use Rattle.evac_plan.specs.declared.fault.EvacFault.{EvacFault}
use Rattle.evac_plan.specs.declared.fault.EvacFault.TheVariants as fault
use Rattle.evac_plan.specs.Steps.{AreUnderWay, Ends, IsCut}

-- a fault of the way from s to s': a context stays, or it was out of memory
abbrev pub IsFaultOf : EvacFault → Evacuation → Evacuation → World → Type 0
IsFaultOf fault.NoSuch s s' new = ⊥
IsFaultOf (fault.Stays moved context why) s s' new = Ends s' moved.items (Some (Stays context why)) new
IsFaultOf fault.OutOfMemory s s' new = IsCut s s' new

-- a fault is the one of the evacuation of a world; and where it was out of memory, a prefix of its steps was made
abbrev pub IsFault : EvacFault → World → ℕ → List ℕ → World → Type 0
IsFault fault.NoSuch w from targets new = Ends (evacuation w from targets) [] (Some NoSuch) new
IsFault (fault.Stays moved context why) w from targets new = Ends (evacuation w from targets) moved.items (Some (Stays context why)) new
IsFault fault.OutOfMemory w from targets new = IsCut (begun w) (evacuation w from targets) new

-- what holds where no such device is told
abbrev pub IfNoSuch : Type 0 → EvacFault → Type 0
IfNoSuch P fault.NoSuch = P
IfNoSuch P (fault.Stays moved context why) = Unit {0}
IfNoSuch P fault.OutOfMemory = Unit {0}

-- where a context stays, all are where they should be
abbrev pub IsKept : EvacFault → World → ℕ → List ℕ → World → Type 0
IsKept fault.NoSuch w from targets new = Unit {0}
IsKept (fault.Stays moved context why) w from targets new = IsLeftWith w from targets context why (evacuation w from targets).steps new moved.items
IsKept fault.OutOfMemory w from targets new = Unit {0}

-- the machine comes from m by the steps that were made, all of the evacuation's or a prefix of them, and by the first
-- events of a settling under way
pub record IsFollowed (w : World) (m : Machine) (from : ℕ) (targets : List ℕ) (new : World) : Type 0 where
  pub prefix : List Happening
  pub back : List Happening
  pub splits : (evacuation w from targets).steps ≡ prefix ++ back
  pub events : List WorldEvent
  pub under_way : AreUnderWay (world_left w prefix) events back
  pub follows : FollowsAll w m prefix
  pub goes_on : (m' : Machine) → Stands (world_left w prefix) m' → FollowsRun (world_left w prefix) m' events
  pub left : new ≡ with_kept_datagrams (world_after (world_left w prefix) events)
