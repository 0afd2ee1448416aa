-- A husk answers NAK_STOPPED, and the end waits: its expiries are not counted and it sends nothing.
use Rattle.std.specs.Prelude.{List, [], ◌∷◌, ◌++◌}
use Rattle.rdma_types.specs.declared.answers.Answer.{Answer}
use Rattle.rdma_types.specs.declared.answers.Answer.TheVariants as answer
use Rattle.rdma_types.specs.declared.answers.Answer.TheVariants.{Done, Waiting, Stopped, NotCounted}
use Rattle.rdma_types.specs.declared.answers.ExpiryIgnored.TheVariants as not_why
use Rattle.rdma_types.specs.declared.answers.ArrivalEffect.TheVariants as took_word
use Rattle.protocol.specs.declared.events.WorldEvent.{WorldEvent}
use Rattle.protocol.specs.declared.events.WorldEvent.TheVariants.{Deliver, Wire, Stop}
use Rattle.example_rules.specs.Words.{obj, store, write, go, expire, sent, took}
use Rattle.example_rules.specs.ProtocolOpening.{usual, opening, opened, n_a, n_b, n_m, n_q}

-- the script
abbrev pub script : List WorldEvent
script =
    opening usual
    ++ store (obj n_a n_m) 4096 (222 ∷ 173 ∷ 190 ∷ 239 ∷ [])
    ∷ write (obj n_a n_q) 1 16777218 4096 4 8192 33554435
    ∷ go (obj n_a n_q)
    ∷ Stop n_b
    ∷ Deliver 1
    ∷ Wire 2
    ∷ Deliver 2
    ∷ expire (obj n_a n_q)
    ∷ go (obj n_a n_q)
    ∷ []

-- what it is answered, in order
abbrev pub answers : List Answer
answers =
    opened
    ++ Done
    ∷ Done
    ∷ sent 1
    ∷ Stopped
    ∷ took took_word.Stopped 2 1
    ∷ answer.Wire (17 ∷ 0 ∷ 255 ∷ 255 ∷ 0 ∷ 1 ∷ 0 ∷ 1 ∷ 0 ∷ 0 ∷ 0 ∷ 100 ∷ 101 ∷ 0 ∷ 0 ∷ 0 ∷ 0 ∷ 0 ∷ 0 ∷ 0 ∷ [])
    ∷ took took_word.Paused 0 0
    ∷ NotCounted not_why.Paused
    ∷ Waiting
    ∷ []
