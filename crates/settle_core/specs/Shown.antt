-- How the state of a settling stands in the code.
use Rattle.std.specs.Prelude.{◌≡◌, ℕ, List, false, map, option_map, IfSome}
use Rattle.rdma_types.specs.declared.names.ObjName.{ObjName}
use Rattle.rdma_types.specs.Lists.{same_object}
use Rattle.protocol.specs.declared.events.WorldEvent.{WorldEvent}
use Rattle.protocol.specs.State.{World}
use Rattle.protocol.specs.Settle.{Settled, Settling, Waited, last_wait, marks}
use Rattle.law_kept_datagrams.specs.Alike.{with_kept_datagrams}
use Rattle.indexmap.specs.IndexMap.{get}
use Rattle.world_core.specs.Settled.{IsCut}
use Rattle.settle_core.specs.Marks.{view_mark}
use Rattle.settle_core.specs.declared.notes.Notes.{Notes}
use Rattle.settle_core.specs.declared.notes.Wait.{Wait}

-- what is noted of a timer's step
abbrev pub wait_of : Waited → Wait
wait_of x = record { una = x.una; partner_ended = x.partner_ended }

-- as long as the round has no change, what was seen has the world's marks
abbrev pub HasSeen : World → Notes → Type 0
HasSeen w n = n.changed ≡ false → IfSome n.seen (λ ends. map view_mark ends ≡ marks w)

-- the world keeps the last datagrams of the state's, and the notes are the state's
pub record Shows (w : World) (n : Notes) (s : Settling) : Type 0 where
  pub world : w ≡ with_kept_datagrams s.world
  pub changed : n.changed ≡ s.changed
  pub stepped : n.stepped ≡ s.stepped
  pub waited : (o : ObjName) → get same_object n.waited o ≡ option_map wait_of (last_wait s o)
  pub seen : HasSeen w n

-- a call takes each state that it begins with to the one that f makes of it
abbrev pub Settles : (Settling → Settling) → World → Notes → World → Notes → Type 0
Settles f w n w' n' = (s : Settling) → Shows w n s → Shows w' n' (f s)

-- a call that runs out of memory has made the first of these events of each state that it begins with, and not the rest
abbrev pub Cuts : (Settling → List WorldEvent) → World → Notes → World → Type 0
Cuts events w n w' = (s : Settling) → Shows w n s → IsCut s.world (events s) w'

-- the world keeps the last datagrams of a settled one, and its rounds are counted
pub record Ends (end : Settled) (w : World) (count : ℕ) : Type 0 where
  pub world : w ≡ with_kept_datagrams end.world
  pub rounds : count ≡ end.rounds
