-- A fenced write waits until the read before it is complete.
use Rattle.std.specs.Prelude.{List, [], ◌∷◌, None, true, false, ◌++◌}
use Rattle.rdma_types.specs.declared.answers.Answer.{Answer}
use Rattle.rdma_types.specs.declared.answers.Answer.TheVariants.{Done, Polled, Fenced}
use Rattle.rdma_types.specs.declared.answers.ArrivalEffect.TheVariants as took_word
use Rattle.rdma_types.specs.declared.requests.Kind.TheVariants as kind
use Rattle.rdma_types.specs.declared.requests.WcKind.TheVariants as wc_kind
use Rattle.rdma_types.specs.declared.requests.WcStatus.TheVariants as status
use Rattle.protocol.specs.declared.events.WorldEvent.{WorldEvent}
use Rattle.protocol.specs.declared.events.WorldEvent.TheVariants.{Deliver}
use Rattle.example_rules.specs.Words.{obj, posting, poll, go, sent, took, wc}
use Rattle.example_rules.specs.ProtocolOpening.{usual, opening, opened, n_a, n_c, n_q}

-- the script
abbrev pub script : List WorldEvent
script =
    opening usual
    ++ posting (obj n_a n_q) 1 kind.Read 16777218 4096 4 8192 33554435 None 0 0 false true
    ∷ posting (obj n_a n_q) 2 kind.Write 16777218 4100 4 8196 33554435 None 0 0 true true
    ∷ go (obj n_a n_q)
    ∷ go (obj n_a n_q)
    ∷ Deliver 1
    ∷ Deliver 2
    ∷ go (obj n_a n_q)
    ∷ Deliver 3
    ∷ Deliver 4
    ∷ poll (obj n_a n_c) 4
    ∷ []

-- what it is answered, in order
abbrev pub answers : List Answer
answers =
    opened
    ++ Done
    ∷ Done
    ∷ sent 1
    ∷ Fenced
    ∷ took took_word.Bytes 2 1
    ∷ took took_word.Landed 0 0
    ∷ sent 3
    ∷ took took_word.Ack 4 1
    ∷ took took_word.Acked 0 0
    ∷ Polled (wc 65537 1 wc_kind.Read status.Success 4 None ∷ wc 65537 2 wc_kind.Write status.Success 4 None ∷ [])
    ∷ []
