-- A partner moves between two pieces of a write, and the message goes on at its new place.
use Rattle.std.specs.Prelude.{List, [], ◌∷◌, None, ◌++◌}
use Rattle.rdma_types.specs.declared.answers.Answer.{Answer}
use Rattle.rdma_types.specs.declared.answers.Answer.TheVariants.{Done, Polled, Stopped}
use Rattle.rdma_types.specs.declared.answers.ArrivalEffect.TheVariants as took_word
use Rattle.rdma_types.specs.declared.requests.WcKind.TheVariants as wc_kind
use Rattle.rdma_types.specs.declared.requests.WcStatus.TheVariants as status
use Rattle.protocol.specs.declared.events.WorldEvent.{WorldEvent}
use Rattle.protocol.specs.declared.events.WorldEvent.TheVariants.{Deliver, Stop, Restore}
use Rattle.example_rules.specs.Words.{obj, write, poll, go, sent, took, wc}
use Rattle.example_rules.specs.ProtocolOpening.{usual, opening, opened, n_a, n_b, n_c, n_q}

-- the script
abbrev pub script : List WorldEvent
script =
    opening (record usual { bytes = 1024 })
    ++ write (obj n_a n_q) 1 16777218 4096 600 8192 33554435
    ∷ go (obj n_a n_q)
    ∷ go (obj n_a n_q)
    ∷ go (obj n_a n_q)
    ∷ Deliver 1
    ∷ Stop n_b
    ∷ Deliver 2
    ∷ Deliver 4
    ∷ Restore n_b 3
    ∷ go (obj n_b n_q)
    ∷ Deliver 5
    ∷ Deliver 6
    ∷ go (obj n_a n_q)
    ∷ Deliver 7
    ∷ Deliver 8
    ∷ go (obj n_a n_q)
    ∷ Deliver 9
    ∷ go (obj n_a n_q)
    ∷ Deliver 10
    ∷ Deliver 11
    ∷ poll (obj n_a n_c) 4
    ∷ []

-- what it is answered, in order
abbrev pub answers : List Answer
answers =
    opened
    ++ Done
    ∷ sent 1
    ∷ sent 2
    ∷ sent 3
    ∷ took took_word.Acted 0 0
    ∷ Stopped
    ∷ took took_word.Stopped 4 1
    ∷ took took_word.Paused 0 0
    ∷ Done
    ∷ sent 5
    ∷ took took_word.Resumed 6 1
    ∷ took took_word.Running 0 0
    ∷ sent 7
    ∷ took took_word.DupAck 8 1
    ∷ took took_word.Acked 0 0
    ∷ sent 9
    ∷ took took_word.Acted 0 0
    ∷ sent 10
    ∷ took took_word.Ack 11 1
    ∷ took took_word.Acked 0 0
    ∷ Polled (wc 65537 1 wc_kind.Write status.Success 600 None ∷ [])
    ∷ []
