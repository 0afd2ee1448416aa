-- A response of a read is lost: the repeated request asks for the rest.
use Rattle.std.specs.Prelude.{List, [], ◌∷◌, None, true, false, ◌++◌, map}
use Rattle.rdma_types.specs.declared.answers.Answer.{Answer}
use Rattle.rdma_types.specs.declared.answers.Answer.TheVariants as answer
use Rattle.rdma_types.specs.declared.answers.Answer.TheVariants.{Done, Bytes, Polled, Lost, Expired}
use Rattle.rdma_types.specs.declared.answers.DropReason.TheVariants as why
use Rattle.rdma_types.specs.declared.answers.ArrivalEffect.TheVariants as took_word
use Rattle.rdma_types.specs.declared.requests.Kind.TheVariants as kind
use Rattle.rdma_types.specs.declared.requests.WcKind.TheVariants as wc_kind
use Rattle.rdma_types.specs.declared.requests.WcStatus.TheVariants as status
use Rattle.protocol.specs.declared.events.WorldEvent.TheVariants.{Deliver, Lose, Wire}
use Rattle.protocol.specs.Script.{Happening, Event, Settles}
use Rattle.example_rules.specs.Words.{obj, posting, poll, go, expire, sent, took, silent, wc}
use Rattle.example_rules.specs.ProtocolOpening.{usual, opening, opened, n_a, n_c, n_q}

-- the script
abbrev pub script : List Happening
script =
    map Event (opening (record usual { bytes = 1024; rights = 4 }))
    ++ Event (posting (obj n_a n_q) 1 kind.Read 16777218 4096 600 8192 33554435 None 0 0 false true)
    ∷ Event (go (obj n_a n_q))
    ∷ Event (Deliver 1)
    ∷ Event (Lose 3)
    ∷ Event (Deliver 2)
    ∷ Event (Deliver 4)
    ∷ Event (expire (obj n_a n_q))
    ∷ Event (go (obj n_a n_q))
    ∷ Event (Wire 5)
    ∷ Event (Deliver 5)
    ∷ Settles
    ∷ Event (poll (obj n_a n_c) 4)
    ∷ Event (Deliver 1)
    ∷ Event (Lose 1)
    ∷ Event (Deliver 1)
    ∷ Event (Wire 1)
    ∷ Event (Deliver 9)
    ∷ Event (Lose 9)
    ∷ []

-- what it is answered, in order
abbrev pub answers : List Answer
answers =
    opened
    ++ Done
    ∷ sent 1
    ∷ took took_word.Bytes 2 3
    ∷ Done
    ∷ took took_word.Landed 0 0
    ∷ silent why.Useless
    ∷ Expired 1
    ∷ sent 5
    ∷ answer.Wire (12 ∷ 0 ∷ 255 ∷ 255 ∷ 0 ∷ 2 ∷ 0 ∷ 1 ∷ 128 ∷ 0 ∷ 0 ∷ 101 ∷ 0 ∷ 0 ∷ 0 ∷ 0 ∷ 0 ∷ 0 ∷ 33 ∷ 0 ∷ 2 ∷ 0 ∷ 0 ∷ 3 ∷ 0 ∷ 0 ∷ 1 ∷ 88 ∷ 0 ∷ 0 ∷ 0 ∷ 0 ∷ [])
    ∷ took took_word.Bytes 6 2
    ∷ answer.Quiet []
    ∷ Polled (wc 65537 1 wc_kind.Read status.Success 600 None ∷ [])
    ∷ took took_word.Bytes 8 3
    ∷ Done
    ∷ Lost
    ∷ answer.Wire (12 ∷ 0 ∷ 255 ∷ 255 ∷ 0 ∷ 2 ∷ 0 ∷ 1 ∷ 128 ∷ 0 ∷ 0 ∷ 100 ∷ 0 ∷ 0 ∷ 0 ∷ 0 ∷ 0 ∷ 0 ∷ 32 ∷ 0 ∷ 2 ∷ 0 ∷ 0 ∷ 3 ∷ 0 ∷ 0 ∷ 2 ∷ 88 ∷ 0 ∷ 0 ∷ 0 ∷ 0 ∷ [])
    ∷ silent why.Useless
    ∷ Done
    ∷ []
