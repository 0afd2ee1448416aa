-- A sequence error NAK rewinds to the lost piece, and the same packet is sent again.
use Rattle.std.specs.Prelude.{List, [], ◌∷◌, ◌++◌}
use Rattle.rdma_types.specs.declared.answers.Answer.{Answer}
use Rattle.rdma_types.specs.declared.answers.Answer.TheVariants as answer
use Rattle.rdma_types.specs.declared.answers.Answer.TheVariants.{Done}
use Rattle.rdma_types.specs.declared.answers.ArrivalEffect.TheVariants as took_word
use Rattle.rdma_types.specs.Spelled.{zeros}
use Rattle.protocol.specs.declared.events.WorldEvent.{WorldEvent}
use Rattle.protocol.specs.declared.events.WorldEvent.TheVariants.{Deliver, Lose, Wire}
use Rattle.example_rules.specs.Words.{obj, write, go, sent, took}
use Rattle.example_rules.specs.ProtocolOpening.{usual, opening, opened, n_a, n_q}

-- the script
abbrev pub script : List WorldEvent
script =
    opening (record usual { bytes = 1024; rights = 2 })
    ++ write (obj n_a n_q) 1 16777218 4096 600 8192 33554435
    ∷ go (obj n_a n_q)
    ∷ go (obj n_a n_q)
    ∷ Lose 1
    ∷ Deliver 2
    ∷ Deliver 3
    ∷ go (obj n_a n_q)
    ∷ Wire 4
    ∷ Deliver 4
    ∷ []

-- what it is answered, in order
abbrev pub answers : List Answer
answers =
    opened
    ++ Done
    ∷ sent 1
    ∷ sent 2
    ∷ Done
    ∷ took took_word.SeqNak 3 1
    ∷ took took_word.Rewound 0 0
    ∷ sent 4
    ∷ answer.Wire (6 ∷ 0 ∷ 255 ∷ 255 ∷ 0 ∷ 2 ∷ 0 ∷ 1 ∷ 0 ∷ 0 ∷ 0 ∷ 100 ∷ 0 ∷ 0 ∷ 0 ∷ 0 ∷ 0 ∷ 0 ∷ 32 ∷ 0 ∷ 2 ∷ 0 ∷ 0 ∷ 3 ∷ 0 ∷ 0 ∷ 2 ∷ 88 ∷ zeros 260)
    ∷ took took_word.Acted 0 0
    ∷ []
