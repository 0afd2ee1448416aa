-- A send with an immediate completes a receive with it; a read lands at the reader.
use Rattle.std.specs.Prelude.{List, [], ◌∷◌, Some, None, true, false, ◌++◌}
use Rattle.rdma_types.specs.declared.answers.Answer.{Answer}
use Rattle.rdma_types.specs.declared.answers.Answer.TheVariants as answer
use Rattle.rdma_types.specs.declared.answers.Answer.TheVariants.{Done, Bytes, Polled}
use Rattle.rdma_types.specs.declared.answers.ArrivalEffect.TheVariants as took_word
use Rattle.rdma_types.specs.declared.requests.Kind.TheVariants as kind
use Rattle.rdma_types.specs.declared.requests.WcKind.TheVariants as wc_kind
use Rattle.rdma_types.specs.declared.requests.WcStatus.TheVariants as status
use Rattle.protocol.specs.declared.events.WorldEvent.{WorldEvent}
use Rattle.protocol.specs.declared.events.WorldEvent.TheVariants.{Deliver, Wire}
use Rattle.example_rules.specs.Words.{obj, posting, recv, poll, go, sent, took, wc}
use Rattle.example_rules.specs.ProtocolOpening.{usual, opening, opened, n_a, n_b, n_c, n_q}

-- the script
abbrev pub script : List WorldEvent
script =
    opening usual
    ++ recv (obj n_b n_q) 9 33554434 8192 8
    ∷ posting (obj n_a n_q) 1 kind.Send 16777218 4096 4 0 0 (Some 42) 0 0 false true
    ∷ go (obj n_a n_q)
    ∷ Wire 1
    ∷ Deliver 1
    ∷ Deliver 2
    ∷ poll (obj n_b n_c) 4
    ∷ posting (obj n_a n_q) 2 kind.Read 16777218 4096 4 8192 33554435 None 0 0 false true
    ∷ go (obj n_a n_q)
    ∷ Deliver 3
    ∷ Wire 4
    ∷ Deliver 4
    ∷ []

-- what it is answered, in order
abbrev pub answers : List Answer
answers =
    opened
    ++ Done
    ∷ Done
    ∷ sent 1
    ∷ answer.Wire (5 ∷ 0 ∷ 255 ∷ 255 ∷ 0 ∷ 2 ∷ 0 ∷ 1 ∷ 128 ∷ 0 ∷ 0 ∷ 100 ∷ 0 ∷ 0 ∷ 0 ∷ 42 ∷ 0 ∷ 0 ∷ 0 ∷ 0 ∷ 0 ∷ 0 ∷ 0 ∷ 0 ∷ [])
    ∷ took took_word.Ack 2 1
    ∷ took took_word.Acked 0 0
    ∷ Polled (wc 131073 9 wc_kind.Recv status.Success 4 (Some 42) ∷ [])
    ∷ Done
    ∷ sent 3
    ∷ took took_word.Bytes 4 1
    ∷ answer.Wire (16 ∷ 0 ∷ 255 ∷ 255 ∷ 0 ∷ 1 ∷ 0 ∷ 1 ∷ 0 ∷ 0 ∷ 0 ∷ 101 ∷ 31 ∷ 0 ∷ 0 ∷ 2 ∷ 0 ∷ 0 ∷ 0 ∷ 0 ∷ 0 ∷ 0 ∷ 0 ∷ 0 ∷ [])
    ∷ took took_word.Landed 0 0
    ∷ []
