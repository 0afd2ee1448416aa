-- A node that takes datagrams which no node sent: one that is cut off, and one with the numbers and the key that its queue pair grants.
use Rattle.std.specs.Prelude.{List, [], ◌∷◌, codes, Some, None}
use Rattle.protocol.specs.declared.events.Event.TheVariants as event
use Rattle.protocol.specs.WorldStep.{exchanged}
use Rattle.node_rules.specs.Script.{node_plan}
use Rattle.law_nodes.specs.Acts as act
use Rattle.law_nodes.specs.Acts.{Act}
use Rattle.law_nodes.specs.Composed.{Deed, NodeRun, Script}
use Rattle.example_nodes.specs.Composition.{Gives, Heard, Ticks, calls_with, does, of_b, terms}
use Rattle.example_nodes.specs.Things.{cut, one, serving_script, two, write}

abbrev pub prepares : List Act
prepares =
    act.Starts two
    ∷ act.Does (event.MakeContext (codes "b"))
    ∷ act.Does (event.MakeDomain (of_b (codes "p")))
    ∷ act.Does (event.MakeRegion (of_b (codes "n")) (Some (codes "p")) 8192 64 (record { 0 = 15 }))
    ∷ act.Does (event.MakeCq (of_b (codes "c")) 16)
    ∷ act.Does (event.MakeQp (of_b (codes "q")) (Some (codes "p")) (Some (codes "c")) (Some (codes "c")) 8 8)
    ∷ act.Does (event.Connect (of_b (codes "q")) 65537 one (exchanged terms))
    ∷ []

-- three turns, and then the bytes are loaded
abbrev pub serves : List Act
serves =
    act.Takes cut
    ∷ act.Turns (event.Transmit (of_b (codes "q")))
    ∷ act.Asks 0
    ∷ act.Takes write
    ∷ act.Turns (event.Transmit (of_b (codes "q")))
    ∷ act.Asks 0
    ∷ act.Waits
    ∷ act.Turns (event.Transmit (of_b (codes "q")))
    ∷ act.Asks 0
    ∷ act.Counts 2
    ∷ act.Does (event.Load (of_b (codes "n")) 8192 4)
    ∷ []

abbrev pub hears : List Heard
hears = Gives (Some cut) ∷ Ticks 0 ∷ Gives (Some write) ∷ Ticks 0 ∷ Gives None ∷ Ticks 0 ∷ []

abbrev pub watched : NodeRun
watched = record { id = 2; own = two; source = Script serving_script (calls_with (node_plan 2 two serving_script) hears); prepared = prepares; served = serves }

abbrev pub nodes : List NodeRun
nodes = watched ∷ []

abbrev pub order : List Deed
order = does 2 serves []
