-- Two queue pairs share a completion queue of one entry: a request reserves it until its completion is polled.
use Rattle.std.specs.Prelude.{List, [], ◌∷◌, Some, None, ◌++◌}
use Rattle.rdma_types.specs.declared.answers.Answer.{Answer}
use Rattle.rdma_types.specs.declared.answers.Answer.TheVariants.{Done, Qp, Polled, Refused}
use Rattle.rdma_types.specs.declared.answers.Refusal.TheVariants as refusal
use Rattle.rdma_types.specs.declared.answers.ArrivalEffect.TheVariants as took_word
use Rattle.rdma_types.specs.declared.requests.WcKind.TheVariants as wc_kind
use Rattle.rdma_types.specs.declared.requests.WcStatus.TheVariants as status
use Rattle.protocol.specs.declared.events.WorldEvent.{WorldEvent}
use Rattle.protocol.specs.declared.events.WorldEvent.TheVariants.{Deliver}
use Rattle.example_rules.specs.Words.{obj, qp, connect, write, poll, go, sent, took, wc}
use Rattle.example_rules.specs.ProtocolOpening.{usual, opening, opened, n_a, n_b, n_c, n_p, n_q, n_r}

-- the script
abbrev pub script : List WorldEvent
script =
    opening (record usual { capacity = 1 })
    ++ qp (obj n_a n_r) (Some n_p) (Some n_c) (Some n_c) 8 8
    ∷ qp (obj n_b n_r) (Some n_p) (Some n_c) (Some n_c) 8 8
    ∷ connect (obj n_a n_r) (obj n_b n_r) 256 100 200 7 7 4
    ∷ write (obj n_a n_q) 1 16777218 4096 4 8192 33554435
    ∷ write (obj n_a n_r) 1 16777218 4096 4 8192 33554435
    ∷ go (obj n_a n_q)
    ∷ Deliver 1
    ∷ Deliver 2
    ∷ write (obj n_a n_r) 1 16777218 4096 4 8192 33554435
    ∷ poll (obj n_a n_c) 4
    ∷ write (obj n_a n_r) 1 16777218 4096 4 8192 33554435
    ∷ []

-- what it is answered, in order
abbrev pub answers : List Answer
answers =
    opened
    ++ Qp 65538
    ∷ Qp 131074
    ∷ Done
    ∷ Done
    ∷ Refused refusal.CqFull
    ∷ sent 1
    ∷ took took_word.Ack 2 1
    ∷ took took_word.Acked 0 0
    ∷ Refused refusal.CqFull
    ∷ Polled (wc 65537 1 wc_kind.Write status.Success 4 None ∷ [])
    ∷ Done
    ∷ []
