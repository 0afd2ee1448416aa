-- What a settler must do.
use Rattle.std.specs.Prelude.{◌≡◌, List, ◌++◌}
use Rattle.protocol.specs.declared.events.WorldEvent.{WorldEvent}
use Rattle.protocol.specs.State.{World}
use Rattle.protocol.specs.WorldStep.{world_after}
use Rattle.protocol.specs.Settle.{settled, unfinished}
use Rattle.law_settling.specs.Events.{settling_events}
use Rattle.law_kept_datagrams.specs.Alike.{with_kept_datagrams}
use Rattle.world_core.specs.declared.settling.Quiet.{Quiet}

-- the world is the one that settling makes, in which those datagrams are blank that are not kept; its rounds are counted, and
-- each end with untold requests is listed with its reason
pub record IsSettled (old new : World) (q : Quiet) : Type 0 where
  pub world : new ≡ with_kept_datagrams (settled old).world
  pub rounds : q.rounds ≡ (settled old).rounds
  pub unfinished : q.unfinished ≡ unfinished (settled old).world

-- the first of these events were made of another world, and the rest were not; of the world that they lead to this one is what is
-- kept
pub record IsCut (old : World) (events : List WorldEvent) (new : World) : Type 0 where
  pub made : List WorldEvent
  pub rest : List WorldEvent
  pub are : events ≡ made ++ rest
  pub world : new ≡ with_kept_datagrams (world_after old made)

-- .. of the events of a settling, for each whole world with the same last datagrams
abbrev pub IsLeft : World → World → Type 0
IsLeft old new = (w : World) → with_kept_datagrams w ≡ with_kept_datagrams old → IsCut w (settling_events w) new
