-- An addition at an address that is not a multiple of 8 is refused.
use Rattle.std.specs.Prelude.{List, [], ◌∷◌, None, true, false, ◌++◌}
use Rattle.rdma_types.specs.declared.answers.Answer.{Answer}
use Rattle.rdma_types.specs.declared.answers.Answer.TheVariants.{Done}
use Rattle.rdma_types.specs.declared.answers.RefusalReason.TheVariants as refused
use Rattle.rdma_types.specs.declared.answers.ArrivalEffect.TheVariants as took_word
use Rattle.rdma_types.specs.declared.requests.Kind.TheVariants as kind
use Rattle.rdma_types.specs.declared.requests.WcStatus.TheVariants as status
use Rattle.protocol.specs.declared.events.WorldEvent.{WorldEvent}
use Rattle.protocol.specs.declared.events.WorldEvent.TheVariants.{Deliver}
use Rattle.example_rules.specs.Words.{obj, posting, go, sent, took}
use Rattle.example_rules.specs.ProtocolOpening.{usual, opening, opened, n_a, n_q}

-- the script
abbrev pub script : List WorldEvent
script =
    opening usual
    ++ posting (obj n_a n_q) 1 kind.FetchAdd 16777218 4096 8 8193 33554435 None 0 5 false true
    ∷ go (obj n_a n_q)
    ∷ Deliver 1
    ∷ Deliver 2
    ∷ []

-- what it is answered, in order
abbrev pub answers : List Answer
answers =
    opened
    ++ Done
    ∷ sent 1
    ∷ took (took_word.Refused refused.Invalid) 2 1
    ∷ took (took_word.Ended status.RemoteInvalid) 0 0
    ∷ []
