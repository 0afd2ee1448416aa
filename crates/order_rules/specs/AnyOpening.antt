-- Fair orders that begin with any devices that stand for a state of the packetless machine (this project's choice).
use Rattle.std.specs.Prelude.{◌≡◌, ◌≤◌, Bool, true, false, List, [], ◌++◌, length, All}
use Rattle.std.specs.List.{list_all}
use Rattle.protocol.specs.declared.events.Event.{Event}
use Rattle.protocol.specs.declared.events.Event.TheVariants as event
use Rattle.protocol.specs.declared.events.WorldEvent.{WorldEvent}
use Rattle.protocol.specs.declared.events.WorldEvent.TheVariants as world_event
use Rattle.protocol.specs.State.{World, empty_world}
use Rattle.protocol.specs.WorldStep.{world_after}
use Rattle.rdma_types.specs.Limits.{most_flights}
use Rattle.packetless_machine.specs.declared.steps.MachineStep.{MachineStep}
use Rattle.packetless_machine.specs.Machine.{Machine, empty}
use Rattle.packetless_machine.specs.Legal.{IsLegal, IsLegalFrom, IsRun, after, seen}
use Rattle.law_simulation.specs.Law.{IsInRange, kept}
use Rattle.law_simulation.specs.Stands.{Stands}
use Rattle.order_rules.specs.Bridge.{IsFairOrder, IsRunFrom}
use Rattle.order_rules.specs.Hears.{heard}
use Rattle.order_rules.specs.Lines.{Line, flown}
use Rattle.order_rules.specs.Sides.{carried_after, world_of}

-- ---- what an opening is

-- an order may begin with the devices of this world: the world stands for the machine's state m, and no context is carried.
-- Datagrams that were sent before are lost, since an order takes in its own alone
pub record IsOpening (w : World) (m : Machine) : Type 0 where
  pub stands : Stands w m
  pub uncarried : w.carried ≡ []

-- where a fair order of its devices leads: a run leads the machine on, in which applications hear what they hear in the order;
-- and where every stopped context was restored, the devices after the order are an opening again
pub record LeadsOn (w : World) (m : Machine) (ls : List Line) : Type 0 where
  pub run : List MachineStep
  pub is_run : IsRun m run
  pub heard_all : seen m run ≡ heard ls
  pub world : World
  pub devices : world.devices ≡ (world_of w.devices ls).devices
  pub again : carried_after [] ls ≡ [] → IsOpening world (after m run)

-- .. each does so
abbrev pub AnyFairOrderLeadsOn : Type 0
AnyFairOrderLeadsOn = (w : World) (m : Machine) (ls : List Line) → IsOpening w m → IsFairOrder w.devices ls → LeadsOn w m ls

-- each fair order of its devices is legal from that state: what applications make and hear in the order, they make and hear
-- in some run of the machine from there
abbrev pub AnyFairOrderIsLegal : Type 0
AnyFairOrderIsLegal = (w : World) (m : Machine) (ls : List Line) → IsOpening w m → IsFairOrder w.devices ls → IsLegalFrom m (heard ls)

-- .. and is a run of world events, where nothing was sent before and the network's store keeps every datagram
abbrev pub AnyShortOrderIsARun : Type 0
AnyShortOrderIsARun = (w : World) (m : Machine) (ls : List Line) → IsOpening w m → w.sent ≡ [] → IsFairOrder w.devices ls → length (flown w.devices ls) ≤ most_flights → IsRunFrom w ls

-- ---- how a program makes one

-- the event makes, connects or drops a thing, reads or writes memory, posts or polls: it sends nothing and moves nothing
abbrev pub is_preparing : Event → Bool
is_preparing (event.Transmit o) = false
is_preparing (event.Arrive from bytes) = false
is_preparing (event.Expire o) = false
is_preparing (event.RnrOver o) = false
is_preparing (event.Stop name alone) = false
is_preparing (event.Restore image) = false
is_preparing (event.Release name) = false
is_preparing other = true

-- .. of a world; devices and contexts are made as well
abbrev pub prepares : WorldEvent → Bool
prepares (world_event.AddDevice id address) = true
prepares (world_event.MakeContext name device) = true
prepares (world_event.At e) = is_preparing e
prepares (world_event.Connect one two terms) = true
prepares other = false

-- events that prepare devices, with their fields in their ranges
pub record ArePreparing (es : List WorldEvent) : Type 0 where
  pub in_range : All IsInRange es
  pub prepare : list_all prepares es ≡ true

-- these events lead from the empty world to an opening, and send nothing; a run leads the machine to the state that it stands
-- for, and applications hear the same in both
pub record IsOpened (es : List WorldEvent) : Type 0 where
  pub run : List MachineStep
  pub is_run : IsRun empty run
  pub heard_all : seen empty run ≡ kept empty_world es
  pub opening : IsOpening (world_after empty_world es) (after empty run)
  pub unsent : (world_after empty_world es).sent ≡ []

-- whatever devices, contexts, regions, queues and connections are prepared, they are an opening
abbrev pub PreparedWorldsAreOpenings : Type 0
PreparedWorldsAreOpenings = (es : List WorldEvent) → ArePreparing es → IsOpened es

-- so each fair order of such devices is legal: what was heard while they were prepared, and then what is heard in the order
abbrev pub PreparedOrdersAreLegal : Type 0
PreparedOrdersAreLegal = (es : List WorldEvent) (ls : List Line) → ArePreparing es → IsFairOrder (world_after empty_world es).devices ls → IsLegal (kept empty_world es ++ heard ls)
