-- With waits without end, settling leaves a send that lacks a receive, and finishes it once there is one.
use Rattle.std.specs.Prelude.{List, [], ◌∷◌, None, true, false, ◌++◌, map}
use Rattle.rdma_types.specs.declared.answers.Answer.{Answer}
use Rattle.rdma_types.specs.declared.answers.Answer.TheVariants as answer
use Rattle.rdma_types.specs.declared.answers.Answer.TheVariants.{Done, Polled}
use Rattle.rdma_types.specs.declared.answers.ArrivalEffect.TheVariants as took_word
use Rattle.rdma_types.specs.declared.requests.Kind.TheVariants as kind
use Rattle.rdma_types.specs.declared.requests.WcKind.TheVariants as wc_kind
use Rattle.rdma_types.specs.declared.requests.WcStatus.TheVariants as status
use Rattle.protocol.specs.declared.events.WorldEvent.TheVariants.{Deliver, Wire}
use Rattle.rdma_types.specs.declared.answers.UnfinishedReason.TheVariants as left
use Rattle.protocol.specs.Script.{Happening, Event, Settles}
use Rattle.example_rules.specs.Words.{obj, posting, recv, poll, go, sent, took, wc}
use Rattle.example_rules.specs.ProtocolOpening.{usual, opening, opened, n_a, n_b, n_c, n_q}

-- the script
abbrev pub script : List Happening
script =
    map Event (opening usual)
    ++ Event (posting (obj n_a n_q) 1 kind.Send 16777218 4096 4 0 0 None 0 0 false true)
    ∷ Event (go (obj n_a n_q))
    ∷ Event (Deliver 1)
    ∷ Event (Wire 2)
    ∷ Event (Deliver 2)
    ∷ Settles
    ∷ Event (recv (obj n_b n_q) 9 33554434 8192 8)
    ∷ Settles
    ∷ Event (poll (obj n_b n_c) 4)
    ∷ []

-- what it is answered, in order
abbrev pub answers : List Answer
answers =
    opened
    ++ Done
    ∷ sent 1
    ∷ took took_word.NotReady 2 1
    ∷ answer.Wire (17 ∷ 0 ∷ 255 ∷ 255 ∷ 0 ∷ 1 ∷ 0 ∷ 1 ∷ 0 ∷ 0 ∷ 0 ∷ 100 ∷ 32 ∷ 0 ∷ 0 ∷ 0 ∷ 0 ∷ 0 ∷ 0 ∷ 0 ∷ [])
    ∷ took took_word.Waits 0 0
    ∷ answer.Quiet (((obj n_a n_q), left.NoReceive) ∷ [])
    ∷ Done
    ∷ answer.Quiet []
    ∷ Polled (wc 131073 9 wc_kind.Recv status.Success 4 None ∷ [])
    ∷ []
