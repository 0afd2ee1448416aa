-- A write of no bytes checks no key; a region with an untold write cannot be dropped.
use Rattle.std.specs.Prelude.{List, [], ◌∷◌, None, ◌++◌}
use Rattle.rdma_types.specs.declared.answers.Answer.{Answer}
use Rattle.rdma_types.specs.declared.answers.Answer.TheVariants.{Done, Polled, Refused}
use Rattle.rdma_types.specs.declared.answers.Refusal.TheVariants as refusal
use Rattle.rdma_types.specs.declared.answers.ArrivalEffect.TheVariants as took_word
use Rattle.rdma_types.specs.declared.requests.WcKind.TheVariants as wc_kind
use Rattle.rdma_types.specs.declared.requests.WcStatus.TheVariants as status
use Rattle.protocol.specs.declared.events.WorldEvent.{WorldEvent}
use Rattle.protocol.specs.declared.events.WorldEvent.TheVariants.{Deliver}
use Rattle.example_rules.specs.Words.{obj, drop, write, poll, go, sent, took, wc}
use Rattle.example_rules.specs.ProtocolOpening.{usual, opening, opened, n_a, n_c, n_m, n_q}

-- the script
abbrev pub script : List WorldEvent
script =
    opening usual
    ++ write (obj n_a n_q) 1 0 0 0 0 57005
    ∷ go (obj n_a n_q)
    ∷ Deliver 1
    ∷ Deliver 2
    ∷ poll (obj n_a n_c) 4
    ∷ write (obj n_a n_q) 1 16777218 4096 4 8192 33554435
    ∷ drop (obj n_a n_m)
    ∷ []

-- what it is answered, in order
abbrev pub answers : List Answer
answers =
    opened
    ++ Done
    ∷ sent 1
    ∷ took took_word.Ack 2 1
    ∷ took took_word.Acked 0 0
    ∷ Polled (wc 65537 1 wc_kind.Write status.Success 0 None ∷ [])
    ∷ Done
    ∷ Refused refusal.InUse
    ∷ []
