-- A late NAK_STOPPED with an old count pauses nothing, and the write is sent again.
use Rattle.std.specs.Prelude.{List, [], ◌∷◌, None, ◌++◌}
use Rattle.rdma_types.specs.declared.answers.Answer.{Answer}
use Rattle.rdma_types.specs.declared.answers.Answer.TheVariants.{Bytes, Polled}
use Rattle.rdma_types.specs.declared.answers.DropReason.TheVariants as why
use Rattle.rdma_types.specs.declared.answers.ArrivalEffect.TheVariants as took_word
use Rattle.rdma_types.specs.declared.requests.WcKind.TheVariants as wc_kind
use Rattle.rdma_types.specs.declared.requests.WcStatus.TheVariants as status
use Rattle.protocol.specs.declared.events.WorldEvent.{WorldEvent}
use Rattle.protocol.specs.declared.events.WorldEvent.TheVariants.{Deliver}
use Rattle.example_rules.specs.Words.{obj, load, poll, go, sent, took, silent, wc}
use Rattle.example_rules.specs.ProtocolOpening.{n_a, n_b, n_c, n_n, n_q}
use Rattle.example_rules.specs.Resume as resumed

-- the script
abbrev pub script : List WorldEvent
script =
    resumed.script
    ++ Deliver 2
    ∷ go (obj n_a n_q)
    ∷ Deliver 5
    ∷ Deliver 6
    ∷ poll (obj n_a n_c) 4
    ∷ load (obj n_b n_n) 8192 4
    ∷ []

-- what it is answered, in order
abbrev pub answers : List Answer
answers =
    resumed.answers
    ++ silent why.Stale
    ∷ sent 5
    ∷ took took_word.Ack 6 1
    ∷ took took_word.Acked 0 0
    ∷ Polled (wc 65537 1 wc_kind.Write status.Success 4 None ∷ [])
    ∷ Bytes (222 ∷ 173 ∷ 190 ∷ 239 ∷ [])
    ∷ []
