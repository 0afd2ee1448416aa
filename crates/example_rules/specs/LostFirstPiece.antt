-- The second piece of a write arrives first: a sequence error NAK, one of them, and then both in order.
use Rattle.std.specs.Prelude.{List, [], ◌∷◌, ◌++◌}
use Rattle.rdma_types.specs.declared.answers.Answer.{Answer}
use Rattle.rdma_types.specs.declared.answers.Answer.TheVariants as answer
use Rattle.rdma_types.specs.declared.answers.Answer.TheVariants.{Done}
use Rattle.rdma_types.specs.declared.answers.DropReason.TheVariants as why
use Rattle.rdma_types.specs.declared.answers.ArrivalEffect.TheVariants as took_word
use Rattle.rdma_types.specs.Spelled.{zeros}
use Rattle.protocol.specs.declared.events.WorldEvent.{WorldEvent}
use Rattle.protocol.specs.declared.events.WorldEvent.TheVariants.{Deliver, Wire}
use Rattle.example_rules.specs.Words.{obj, write, go, sent, took, silent}
use Rattle.example_rules.specs.ProtocolOpening.{usual, opening, opened, n_a, n_q}

-- the script
abbrev pub script : List WorldEvent
script =
    opening (record usual { bytes = 1024 })
    ++ write (obj n_a n_q) 1 16777218 4096 300 8192 33554435
    ∷ go (obj n_a n_q)
    ∷ go (obj n_a n_q)
    ∷ Wire 1
    ∷ Wire 2
    ∷ Deliver 2
    ∷ Deliver 2
    ∷ Wire 3
    ∷ Deliver 1
    ∷ Deliver 2
    ∷ Deliver 4
    ∷ Deliver 3
    ∷ []

-- what it is answered, in order
abbrev pub answers : List Answer
answers =
    opened
    ++ Done
    ∷ sent 1
    ∷ sent 2
    ∷ answer.Wire (6 ∷ 0 ∷ 255 ∷ 255 ∷ 0 ∷ 2 ∷ 0 ∷ 1 ∷ 0 ∷ 0 ∷ 0 ∷ 100 ∷ 0 ∷ 0 ∷ 0 ∷ 0 ∷ 0 ∷ 0 ∷ 32 ∷ 0 ∷ 2 ∷ 0 ∷ 0 ∷ 3 ∷ 0 ∷ 0 ∷ 1 ∷ 44 ∷ zeros 260)
    ∷ answer.Wire (8 ∷ 0 ∷ 255 ∷ 255 ∷ 0 ∷ 2 ∷ 0 ∷ 1 ∷ 128 ∷ 0 ∷ 0 ∷ 101 ∷ zeros 48)
    ∷ took took_word.SeqNak 3 1
    ∷ silent why.NakSent
    ∷ answer.Wire (17 ∷ 0 ∷ 255 ∷ 255 ∷ 0 ∷ 1 ∷ 0 ∷ 1 ∷ 0 ∷ 0 ∷ 0 ∷ 100 ∷ 96 ∷ 0 ∷ 0 ∷ 0 ∷ 0 ∷ 0 ∷ 0 ∷ 0 ∷ [])
    ∷ took took_word.Acted 0 0
    ∷ took took_word.Ack 4 1
    ∷ took took_word.Acked 0 0
    ∷ silent why.Useless
    ∷ []
