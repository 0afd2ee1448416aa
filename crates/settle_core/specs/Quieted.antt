-- What a settling says of every whole world that it keeps a part of, and of the packetless machine.
use Rattle.std.specs.Prelude.{◌≡◌, List}
use Rattle.rdma_types.specs.declared.answers.UnfinishedReason.{UnfinishedReason}
use Rattle.rdma_types.specs.declared.names.ObjName.{ObjName}
use Rattle.protocol.specs.State.{World}
use Rattle.protocol.specs.Settle.{settled}
use Rattle.packetless_machine.specs.Machine.{Machine}
use Rattle.law_simulation.specs.Named.{RunFollowsByName}
use Rattle.law_simulation.specs.Quiet.{IsQuiet}
use Rattle.law_simulation.specs.Stands.{Stands}
use Rattle.law_settling.specs.Events.{settling_events}
use Rattle.law_settling.specs.Settling.{IsMade}
use Rattle.law_kept_datagrams.specs.Alike.{with_kept_datagrams}

-- the whole world w settles by the events that are named, and from m the machine follows them, by the steps that are named at each,
-- to a state for which the settled world stands; of that world the call leaves what is kept, and this is quiet, whichever state of the machine the settled world stands for: nothing
-- is pending, and each end with untold requests is listed once, in order, with the first reason that holds
pub record Quiets (w : World) (m : Machine) (new : World) (listed : List (ObjName × UnfinishedReason)) : Type 0 where
  pub made : IsMade w
  pub followed : RunFollowsByName w m (settling_events w)
  pub left : new ≡ with_kept_datagrams (settled w).world
  pub quiet : (m' : Machine) → Stands (settled w).world m' → IsQuiet new m' listed

-- .. of each whole world whose last datagrams this one keeps, and each machine state for which it stands
abbrev pub IsQuieted : World → World → List (ObjName × UnfinishedReason) → Type 0
IsQuieted old new listed = (w : World) (m : Machine) → with_kept_datagrams w ≡ old → Stands w m → Quiets w m new listed
