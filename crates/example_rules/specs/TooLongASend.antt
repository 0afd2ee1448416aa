-- A send that is longer than its receive ends both ends.
use Rattle.std.specs.Prelude.{List, [], ◌∷◌, None, true, false, ◌++◌}
use Rattle.rdma_types.specs.declared.answers.Answer.{Answer}
use Rattle.rdma_types.specs.declared.answers.Answer.TheVariants as answer
use Rattle.rdma_types.specs.declared.answers.Answer.TheVariants.{Done, Polled, Refused}
use Rattle.rdma_types.specs.declared.answers.RefusalReason.TheVariants as refused
use Rattle.rdma_types.specs.declared.answers.ArrivalEffect.TheVariants as took_word
use Rattle.rdma_types.specs.declared.requests.Kind.TheVariants as kind
use Rattle.rdma_types.specs.declared.requests.WcKind.TheVariants as wc_kind
use Rattle.rdma_types.specs.declared.requests.WcStatus.TheVariants as status
use Rattle.protocol.specs.declared.events.WorldEvent.{WorldEvent}
use Rattle.protocol.specs.declared.events.WorldEvent.TheVariants.{Deliver, Wire}
use Rattle.example_rules.specs.Words.{obj, posting, recv, poll, go, sent, took, wc}
use Rattle.example_rules.specs.ProtocolOpening.{usual, opening, opened, n_a, n_b, n_c, n_q}

-- the script
abbrev pub script : List WorldEvent
script =
    opening usual
    ++ recv (obj n_b n_q) 9 33554434 8192 2
    ∷ posting (obj n_a n_q) 1 kind.Send 16777218 4096 4 0 0 None 0 0 false true
    ∷ go (obj n_a n_q)
    ∷ Deliver 1
    ∷ Wire 2
    ∷ Deliver 2
    ∷ poll (obj n_b n_c) 4
    ∷ []

-- what it is answered, in order
abbrev pub answers : List Answer
answers =
    opened
    ++ Done
    ∷ Done
    ∷ sent 1
    ∷ took (took_word.Refused refused.Length) 2 1
    ∷ answer.Wire (17 ∷ 0 ∷ 255 ∷ 255 ∷ 0 ∷ 1 ∷ 0 ∷ 1 ∷ 0 ∷ 0 ∷ 0 ∷ 100 ∷ 97 ∷ 0 ∷ 0 ∷ 0 ∷ 0 ∷ 0 ∷ 0 ∷ 0 ∷ [])
    ∷ took (took_word.Ended status.RemoteInvalid) 0 0
    ∷ Polled (wc 131073 9 wc_kind.Recv status.LocalLength 0 None ∷ [])
    ∷ []
