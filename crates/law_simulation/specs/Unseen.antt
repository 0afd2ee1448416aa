-- Events that no application asks for, and by which no datagram is taken.
use Rattle.std.specs.Prelude.{◌≡◌, List, All, map}
use Rattle.rdma_types.specs.declared.names.Name.{Name}
use Rattle.protocol.specs.declared.events.Event.{Event}
use Rattle.protocol.specs.declared.events.Event.TheVariants.{Transmit, RnrOver}
use Rattle.protocol.specs.declared.events.WorldEvent.{WorldEvent}
use Rattle.protocol.specs.declared.events.WorldEvent.TheVariants.{At, Lose, Wire, Stop, Restore, Release}
use Rattle.protocol.specs.State.{World, Context, empty_world}
use Rattle.protocol.specs.WorldStep.{world_step, world_after}
use Rattle.law_simulation.specs.Views.{context_of, owned_there}
use Rattle.law_simulation.specs.Law.{IsInRange}

-- a transmission, or the end of an RNR timer
abbrev pub IsUnseenAt : Event → Type 0
IsUnseenAt (Transmit o) = Unit {0}
IsUnseenAt (RnrOver o) = Unit {0}
IsUnseenAt other = ⊥

-- .. a loss, a look at a datagram, a stop, a restore or a release
abbrev pub IsUnseen : WorldEvent → Type 0
IsUnseen (At e) = IsUnseenAt e
IsUnseen (Lose k) = Unit {0}
IsUnseen (Wire k) = Unit {0}
IsUnseen (Stop name) = Unit {0}
IsUnseen (Restore name device) = Unit {0}
IsUnseen (Release name device) = Unit {0}
IsUnseen other = ⊥

-- an owner has the same in both contexts
pub record IsUnchanged (c c' : Context) : Type 0 where
  pub domains : c.domains ≡ c'.domains
  -- regions with their bytes, and completion queues with their entries
  pub regions : c.regions ≡ c'.regions
  pub queues : c.queues ≡ c'.queues
  -- of each queue pair its names, its untold requests, its receives, and whether it has ended
  pub ends : map owned_there c.ends ≡ map owned_there c'.ends

-- all owners have the same in both worlds, wherever their contexts are
abbrev pub AreUnchanged : World → World → Type 0
AreUnchanged w w' = (c : Name) → IsUnchanged (context_of w c) (context_of w' c)

-- in each run from the empty world such an event changes nothing that an owner has
abbrev pub UnseenChangesNothing : Type 0
UnseenChangesNothing =
    (es : List WorldEvent) (e : WorldEvent) → All IsInRange es → IsUnseen e →
    AreUnchanged (world_after empty_world es) (world_step (world_after empty_world es) e).world
