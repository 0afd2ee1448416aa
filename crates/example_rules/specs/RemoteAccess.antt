-- A write past the end of the partner's region is refused, and both ends are in Error.
use Rattle.std.specs.Prelude.{List, [], ◌∷◌, None, ◌++◌}
use Rattle.rdma_types.specs.declared.answers.Answer.{Answer}
use Rattle.rdma_types.specs.declared.answers.Answer.TheVariants as answer
use Rattle.rdma_types.specs.declared.answers.Answer.TheVariants.{Done, Bytes, Polled, Refused}
use Rattle.rdma_types.specs.declared.answers.RefusalReason.TheVariants as refused
use Rattle.rdma_types.specs.declared.answers.ArrivalEffect.TheVariants as took_word
use Rattle.rdma_types.specs.declared.requests.WcKind.TheVariants as wc_kind
use Rattle.rdma_types.specs.declared.requests.WcStatus.TheVariants as status
use Rattle.protocol.specs.declared.events.WorldEvent.{WorldEvent}
use Rattle.protocol.specs.declared.events.WorldEvent.TheVariants.{Deliver, Wire}
use Rattle.example_rules.specs.Words.{obj, load, write, poll, go, sent, took, wc}
use Rattle.example_rules.specs.ProtocolOpening.{usual, opening, opened, n_a, n_b, n_c, n_n, n_q}

-- the script
abbrev pub script : List WorldEvent
script =
    opening usual
    ++ write (obj n_a n_q) 1 16777218 4096 2 8255 33554435
    ∷ go (obj n_a n_q)
    ∷ Deliver 1
    ∷ Wire 2
    ∷ Deliver 2
    ∷ poll (obj n_a n_c) 4
    ∷ load (obj n_b n_n) 8255 1
    ∷ []

-- what it is answered, in order
abbrev pub answers : List Answer
answers =
    opened
    ++ Done
    ∷ sent 1
    ∷ took (took_word.Refused refused.Access) 2 1
    ∷ answer.Wire (17 ∷ 0 ∷ 255 ∷ 255 ∷ 0 ∷ 1 ∷ 0 ∷ 1 ∷ 0 ∷ 0 ∷ 0 ∷ 100 ∷ 98 ∷ 0 ∷ 0 ∷ 0 ∷ 0 ∷ 0 ∷ 0 ∷ 0 ∷ [])
    ∷ took (took_word.Ended status.RemoteAccess) 0 0
    ∷ Polled (wc 65537 1 wc_kind.Write status.RemoteAccess 0 None ∷ [])
    ∷ Bytes (0 ∷ [])
    ∷ []
