-- The dump of a stopped context without things.
use Rattle.std.specs.Prelude.{List, [], ◌∷◌}
use Rattle.rdma_types.specs.declared.answers.Answer.{Answer}
use Rattle.rdma_types.specs.declared.answers.Answer.TheVariants as answer
use Rattle.rdma_types.specs.declared.answers.Answer.TheVariants.{Done, Stopped}
use Rattle.protocol.specs.declared.events.WorldEvent.TheVariants.{Stop}
use Rattle.protocol.specs.Script.{Happening, Event, Dump}
use Rattle.example_rules.specs.Words.{device, context}
use Rattle.example_rules.specs.ProtocolOpening.{n_e}

-- the script
abbrev pub script : List Happening
script =
    Event (device 1 167772161)
    ∷ Event (context n_e 1)
    ∷ Event (Stop n_e)
    ∷ Dump n_e
    ∷ []

-- what it is answered, in order
abbrev pub answers : List Answer
answers =
    Done
    ∷ Done
    ∷ Stopped
    ∷ answer.Dump 20 (77 ∷ 73 ∷ 71 ∷ 68 ∷ 85 ∷ 77 ∷ 80 ∷ 0 ∷ 0 ∷ 2 ∷ 1 ∷ 101 ∷ 0 ∷ 0 ∷ 0 ∷ 0 ∷ 0 ∷ 0 ∷ 0 ∷ 0 ∷ [])
    ∷ []
