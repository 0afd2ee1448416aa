-- A piece is lost: settling sends it and the rest again, and what comes late after that acts no more.
use Rattle.std.specs.Prelude.{List, [], ◌∷◌, None, ◌++◌, map}
use Rattle.rdma_types.specs.declared.answers.Answer.{Answer}
use Rattle.rdma_types.specs.declared.answers.Answer.TheVariants as answer
use Rattle.rdma_types.specs.declared.answers.Answer.TheVariants.{Done, Polled}
use Rattle.rdma_types.specs.declared.answers.ArrivalEffect.TheVariants as took_word
use Rattle.rdma_types.specs.declared.requests.WcKind.TheVariants as wc_kind
use Rattle.rdma_types.specs.declared.requests.WcStatus.TheVariants as status
use Rattle.protocol.specs.declared.events.WorldEvent.TheVariants.{Deliver, Lose}
use Rattle.protocol.specs.Script.{Happening, Event, Settles}
use Rattle.example_rules.specs.Words.{obj, write, poll, go, sent, took, wc}
use Rattle.example_rules.specs.ProtocolOpening.{usual, opening, opened, n_a, n_c, n_q}

-- the script
abbrev pub script : List Happening
script =
    map Event (opening (record usual { bytes = 1024; rights = 2 }))
    ++ Event (write (obj n_a n_q) 1 16777218 4096 600 8192 33554435)
    ∷ Event (go (obj n_a n_q))
    ∷ Event (go (obj n_a n_q))
    ∷ Event (Lose 1)
    ∷ Event (go (obj n_a n_q))
    ∷ Settles
    ∷ Event (poll (obj n_a n_c) 4)
    ∷ Event (Deliver 3)
    ∷ Event (Deliver 2)
    ∷ []

-- what it is answered, in order
abbrev pub answers : List Answer
answers =
    opened
    ++ Done
    ∷ sent 1
    ∷ sent 2
    ∷ Done
    ∷ sent 3
    ∷ answer.Quiet []
    ∷ Polled (wc 65537 1 wc_kind.Write status.Success 600 None ∷ [])
    ∷ took took_word.DupAck 9 1
    ∷ took took_word.DupAck 10 1
    ∷ []
