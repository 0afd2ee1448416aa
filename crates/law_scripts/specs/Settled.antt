-- What each settling in a script leaves.
use Rattle.std.specs.Prelude.{ℕ, ◌≡◌, List, [], ◌∷◌, ◌++◌}
use Rattle.rdma_types.specs.declared.answers.Answer.TheVariants as answer
use Rattle.rdma_types.specs.declared.answers.UnfinishedReason.{UnfinishedReason}
use Rattle.rdma_types.specs.declared.names.ObjName.{ObjName}
use Rattle.protocol.specs.Script.{Happening, Settles, happens}
use Rattle.protocol.specs.State.{World, empty_world}
use Rattle.packetless_machine.specs.Machine.{Machine, empty}
use Rattle.law_simulation.specs.Quiet.{IsQuiet}
use Rattle.law_simulation.specs.Stands.{Stands}
use Rattle.law_headline.specs.Left.{ReachesAll}
use Rattle.law_headline.specs.Script.{happenings, world_left}

-- the world that these lines and then a settling leave, from the empty world on
abbrev pub settled_after : List Happening → World
settled_after prefix = world_left empty_world (prefix ++ Settles ∷ [])

-- the settling behind these lines answers a list of ends; the machine comes to a state for which the world that it leaves stands; and
-- of each such state that world is quiet: nothing is pending, and the list names each end with untold requests once, in order, with the
-- first reason that holds
pub record IsLeftQuiet (prefix : List Happening) : Type 0 where
  pub listed : List (ObjName × UnfinishedReason)
  pub answered : (happens (world_left empty_world prefix) Settles).answer ≡ answer.Quiet listed
  pub reached : ReachesAll empty_world empty (prefix ++ Settles ∷ [])
  pub quiet : (m : Machine) → Stands (settled_after prefix) m → IsQuiet (settled_after prefix) m listed

-- .. behind the lines before each `settle` of a text that comes before its first bad line
abbrev pub SettledScriptsAreQuiet : Type 0
SettledScriptsAreQuiet = (text : List ℕ) (prefix rest : List Happening) → happenings text ≡ prefix ++ Settles ∷ rest → IsLeftQuiet prefix
