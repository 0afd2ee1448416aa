-- A moved end sends RESUME from its new place, and is acknowledged.
use Rattle.std.specs.Prelude.{List, [], ◌∷◌, ◌++◌}
use Rattle.rdma_types.specs.declared.answers.Answer.{Answer}
use Rattle.rdma_types.specs.declared.answers.Answer.TheVariants as answer
use Rattle.rdma_types.specs.declared.answers.Answer.TheVariants.{Done}
use Rattle.rdma_types.specs.declared.answers.ArrivalEffect.TheVariants as took_word
use Rattle.protocol.specs.declared.events.WorldEvent.{WorldEvent}
use Rattle.protocol.specs.declared.events.WorldEvent.TheVariants.{Deliver, Wire, Restore}
use Rattle.example_rules.specs.Words.{obj, go, sent, took}
use Rattle.example_rules.specs.ProtocolOpening.{n_b, n_q}
use Rattle.example_rules.specs.HuskAnswers as paused

-- the script
abbrev pub script : List WorldEvent
script =
    paused.script
    ++ Restore n_b 3
    ∷ go (obj n_b n_q)
    ∷ Wire 3
    ∷ Deliver 3
    ∷ Wire 4
    ∷ Deliver 4
    ∷ []

-- what it is answered, in order
abbrev pub answers : List Answer
answers =
    paused.answers
    ++ Done
    ∷ sent 3
    ∷ answer.Wire (30 ∷ 0 ∷ 255 ∷ 255 ∷ 0 ∷ 1 ∷ 0 ∷ 1 ∷ 0 ∷ 0 ∷ 0 ∷ 0 ∷ 0 ∷ 0 ∷ 0 ∷ 1 ∷ 10 ∷ 0 ∷ 0 ∷ 3 ∷ 18 ∷ 183 ∷ 0 ∷ 0 ∷ 0 ∷ 0 ∷ 0 ∷ 0 ∷ [])
    ∷ took took_word.Resumed 4 1
    ∷ answer.Wire (31 ∷ 0 ∷ 255 ∷ 255 ∷ 0 ∷ 2 ∷ 0 ∷ 1 ∷ 0 ∷ 0 ∷ 0 ∷ 0 ∷ 0 ∷ 0 ∷ 0 ∷ 1 ∷ 10 ∷ 0 ∷ 0 ∷ 3 ∷ 18 ∷ 183 ∷ 0 ∷ 0 ∷ 0 ∷ 0 ∷ 0 ∷ 0 ∷ [])
    ∷ took took_word.Running 0 0
    ∷ []
