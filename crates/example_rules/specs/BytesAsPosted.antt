-- A write carries its bytes as they were when it was posted.
use Rattle.std.specs.Prelude.{List, [], ◌∷◌, ◌++◌}
use Rattle.rdma_types.specs.declared.answers.Answer.{Answer}
use Rattle.rdma_types.specs.declared.answers.Answer.TheVariants.{Done, Bytes}
use Rattle.rdma_types.specs.declared.answers.ArrivalEffect.TheVariants as took_word
use Rattle.protocol.specs.declared.events.WorldEvent.{WorldEvent}
use Rattle.protocol.specs.declared.events.WorldEvent.TheVariants.{Deliver}
use Rattle.example_rules.specs.Words.{obj, store, load, write, go, sent, took}
use Rattle.example_rules.specs.ProtocolOpening.{usual, opening, opened, n_a, n_b, n_m, n_n, n_q}

-- the script
abbrev pub script : List WorldEvent
script =
    opening usual
    ++ store (obj n_a n_m) 4096 (222 ∷ 173 ∷ 190 ∷ 239 ∷ [])
    ∷ write (obj n_a n_q) 1 16777218 4096 4 8192 33554435
    ∷ store (obj n_a n_m) 4096 (0 ∷ 0 ∷ 0 ∷ 0 ∷ [])
    ∷ go (obj n_a n_q)
    ∷ Deliver 1
    ∷ load (obj n_b n_n) 8192 4
    ∷ []

-- what it is answered, in order
abbrev pub answers : List Answer
answers =
    opened
    ++ Done
    ∷ Done
    ∷ Done
    ∷ sent 1
    ∷ took took_word.Ack 2 1
    ∷ Bytes (222 ∷ 173 ∷ 190 ∷ 239 ∷ [])
    ∷ []
