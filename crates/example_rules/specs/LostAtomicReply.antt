-- The reply of an addition is lost: the repeat is answered from the kept reply, and adds nothing.
use Rattle.std.specs.Prelude.{List, [], ◌∷◌, None, true, false, ◌++◌}
use Rattle.rdma_types.specs.declared.answers.Answer.{Answer}
use Rattle.rdma_types.specs.declared.answers.Answer.TheVariants.{Done, Bytes, Polled, Expired}
use Rattle.rdma_types.specs.declared.answers.ArrivalEffect.TheVariants as took_word
use Rattle.rdma_types.specs.declared.requests.Kind.TheVariants as kind
use Rattle.rdma_types.specs.declared.requests.WcKind.TheVariants as wc_kind
use Rattle.rdma_types.specs.declared.requests.WcStatus.TheVariants as status
use Rattle.protocol.specs.declared.events.WorldEvent.{WorldEvent}
use Rattle.protocol.specs.declared.events.WorldEvent.TheVariants.{Deliver, Lose}
use Rattle.example_rules.specs.Words.{obj, load, posting, poll, go, expire, sent, took, wc}
use Rattle.example_rules.specs.ProtocolOpening.{usual, opening, opened, n_a, n_b, n_c, n_m, n_n, n_q}

-- an addition is sent and acts, and its reply is lost
abbrev pub lost : List WorldEvent
lost =
    posting (obj n_a n_q) 1 kind.FetchAdd 16777218 4096 8 8192 33554435 None 0 5 false true
    ∷ go (obj n_a n_q)
    ∷ Deliver 1
    ∷ Lose 2
    ∷ []

-- what that is answered
abbrev pub lost_answers : List Answer
lost_answers = Done ∷ sent 1 ∷ took took_word.Old 2 1 ∷ Done ∷ []

-- looks at the completions and at both words
abbrev pub looks : List WorldEvent
looks = poll (obj n_a n_c) 4 ∷ load (obj n_a n_m) 4096 8 ∷ load (obj n_b n_n) 8192 8 ∷ []

-- what they show
abbrev pub shown : List Answer
shown =
    Polled (wc 65537 1 wc_kind.FetchAdd status.Success 8 None ∷ [])
    ∷ Bytes (0 ∷ 0 ∷ 0 ∷ 0 ∷ 0 ∷ 0 ∷ 0 ∷ 0 ∷ [])
    ∷ Bytes (0 ∷ 0 ∷ 0 ∷ 0 ∷ 0 ∷ 0 ∷ 0 ∷ 5 ∷ [])
    ∷ []

-- the script
abbrev pub script : List WorldEvent
script =
    opening usual
    ++ lost
    ++ expire (obj n_a n_q)
    ∷ go (obj n_a n_q)
    ∷ Deliver 3
    ∷ Deliver 4
    ∷ looks

-- what it is answered, in order
abbrev pub answers : List Answer
answers =
    opened
    ++ lost_answers
    ++ Expired 1
    ∷ sent 3
    ∷ took took_word.Old 4 1
    ∷ took took_word.Landed 0 0
    ∷ shown
