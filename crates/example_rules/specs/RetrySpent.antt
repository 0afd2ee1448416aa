-- With no retries the first expiry ends the end with a retry error.
use Rattle.std.specs.Prelude.{List, [], ◌∷◌, None, ◌++◌}
use Rattle.rdma_types.specs.declared.answers.Answer.{Answer}
use Rattle.rdma_types.specs.declared.answers.Answer.TheVariants.{Done, Polled, Spent}
use Rattle.rdma_types.specs.declared.requests.WcKind.TheVariants as wc_kind
use Rattle.rdma_types.specs.declared.requests.WcStatus.TheVariants as status
use Rattle.protocol.specs.declared.events.WorldEvent.{WorldEvent}
use Rattle.example_rules.specs.Words.{obj, write, poll, go, expire, sent, wc}
use Rattle.example_rules.specs.ProtocolOpening.{usual, opening, opened, n_a, n_c, n_q}

-- the script
abbrev pub script : List WorldEvent
script =
    opening (record usual { retry = 0 })
    ++ write (obj n_a n_q) 1 16777218 4096 4 8192 33554435
    ∷ go (obj n_a n_q)
    ∷ expire (obj n_a n_q)
    ∷ poll (obj n_a n_c) 4
    ∷ []

-- what it is answered, in order
abbrev pub answers : List Answer
answers =
    opened
    ++ Done
    ∷ sent 1
    ∷ Spent
    ∷ Polled (wc 65537 1 wc_kind.Write status.RetryExceeded 0 None ∷ [])
    ∷ []
