-- A write is posted and sent: the bytes of its one datagram.
use Rattle.std.specs.Prelude.{List, [], ◌∷◌, ◌++◌}
use Rattle.rdma_types.specs.declared.answers.Answer.{Answer}
use Rattle.rdma_types.specs.declared.answers.Answer.TheVariants as answer
use Rattle.rdma_types.specs.declared.answers.Answer.TheVariants.{Done}
use Rattle.protocol.specs.declared.events.WorldEvent.{WorldEvent}
use Rattle.protocol.specs.declared.events.WorldEvent.TheVariants.{Wire}
use Rattle.example_rules.specs.Words.{obj, store, write, go, sent}
use Rattle.example_rules.specs.ProtocolOpening.{usual, opening, opened, n_a, n_m, n_q}

-- the script
abbrev pub script : List WorldEvent
script =
    opening usual
    ++ store (obj n_a n_m) 4096 (222 ∷ 173 ∷ 190 ∷ 239 ∷ [])
    ∷ write (obj n_a n_q) 1 16777218 4096 4 8192 33554435
    ∷ go (obj n_a n_q)
    ∷ Wire 1
    ∷ []

-- what it is answered, in order
abbrev pub answers : List Answer
answers =
    opened
    ++ Done
    ∷ Done
    ∷ sent 1
    ∷ answer.Wire (10 ∷ 0 ∷ 255 ∷ 255 ∷ 0 ∷ 2 ∷ 0 ∷ 1 ∷ 128 ∷ 0 ∷ 0 ∷ 100 ∷ 0 ∷ 0 ∷ 0 ∷ 0 ∷ 0 ∷ 0 ∷ 32 ∷ 0 ∷ 2 ∷ 0 ∷ 0 ∷ 3 ∷ 0 ∷ 0 ∷ 0 ∷ 4 ∷ 222 ∷ 173 ∷ 190 ∷ 239 ∷ 0 ∷ 0 ∷ 0 ∷ 0 ∷ [])
    ∷ []
