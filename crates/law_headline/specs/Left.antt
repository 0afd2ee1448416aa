-- The world that a script leaves, and the state that the packetless machine comes to by it.
use Rattle.std.specs.Prelude.{ℕ, ◌≡◌, List}
use Rattle.protocol.specs.Script.{Happening}
use Rattle.protocol.specs.State.{World, empty_world}
use Rattle.packetless_machine.specs.Legal.{IsRun, after, seen}
use Rattle.packetless_machine.specs.Machine.{Machine, empty}
use Rattle.law_simulation.specs.Stands.{Stands}
use Rattle.law_kept_datagrams.specs.Alike.{with_kept_datagrams}
use Rattle.law_headline.specs.Follows.{lines_steps}
use Rattle.law_headline.specs.Script.{happenings, heard_from, world_left}

-- the world that the lines of a text leave, before its first bad one, from the empty world on
abbrev pub world_of : List ℕ → World
world_of text = world_left empty_world (happenings text)

-- from m the machine may make the steps at the lines, one after the other, applications hear of them what they hear of the
-- lines, and the world that the lines leave stands for the state after them
pub record ReachesAll (w : World) (m : Machine) (hs : List Happening) : Type 0 where
  pub is_run : IsRun m (lines_steps w m hs)
  pub heard_all : seen m (lines_steps w m hs) ≡ heard_from w hs
  pub stands : Stands (world_left w hs) (after m (lines_steps w m hs))

-- a world is the one that a text leaves, in which those datagrams are blank that the network keeps no more; and the machine
-- comes from the empty state to one for which the world that the text leaves stands
pub record IsWorldAfter (text : List ℕ) (w : World) : Type 0 where
  pub left : w ≡ with_kept_datagrams (world_of text)
  pub reached : ReachesAll empty_world empty (happenings text)
