-- Writes, reads, sends and additions on two connections while a context moves, and settling finishes all of them.
use Rattle.std.specs.Prelude.{List, [], ◌∷◌, ◌++◌, Some, None, true, false}
use Rattle.rdma_types.specs.declared.answers.Answer.{Answer}
use Rattle.rdma_types.specs.declared.answers.Answer.TheVariants as answer
use Rattle.rdma_types.specs.declared.answers.Answer.TheVariants.{Done, Qp, Bytes, Polled, Stopped}
use Rattle.rdma_types.specs.declared.answers.ArrivalEffect.TheVariants as took_word
use Rattle.rdma_types.specs.declared.requests.Kind.TheVariants as kind
use Rattle.rdma_types.specs.declared.requests.WcKind.TheVariants as wc_kind
use Rattle.rdma_types.specs.declared.requests.WcStatus.TheVariants as status
use Rattle.protocol.specs.declared.events.WorldEvent.TheVariants.{Deliver, Stop, Restore, Release}
use Rattle.protocol.specs.Script.{Happening, Event, Settles}
use Rattle.example_rules.specs.Words.{obj, device, context, domain, region, cq, qp, connect, store, load, posting, write, recv, poll, go, sent, took, wc}
use Rattle.example_rules.specs.ProtocolOpening.{made, n_a, n_b, n_c, n_m, n_n, n_p, n_q1, n_q2}

-- the script
abbrev pub script : List Happening
script =
    Event (device 1 167772161)
    ∷ Event (device 2 167772162)
    ∷ Event (device 3 167772163)
    ∷ Event (context n_a 1)
    ∷ Event (context n_b 2)
    ∷ Event (domain (obj n_a n_p))
    ∷ Event (domain (obj n_b n_p))
    ∷ Event (region (obj n_a n_m) (Some n_p) 4096 8192 15)
    ∷ Event (region (obj n_b n_n) (Some n_p) 8192 8192 15)
    ∷ Event (cq (obj n_a n_c) 64)
    ∷ Event (cq (obj n_b n_c) 64)
    ∷ Event (qp (obj n_a n_q1) (Some n_p) (Some n_c) (Some n_c) 16 16)
    ∷ Event (qp (obj n_b n_q1) (Some n_p) (Some n_c) (Some n_c) 16 16)
    ∷ Event (qp (obj n_a n_q2) (Some n_p) (Some n_c) (Some n_c) 16 16)
    ∷ Event (qp (obj n_b n_q2) (Some n_p) (Some n_c) (Some n_c) 16 16)
    ∷ Event (connect (obj n_a n_q1) (obj n_b n_q1) 1024 1000 2000 7 7 4)
    ∷ Event (connect (obj n_a n_q2) (obj n_b n_q2) 1024 2000 4000 7 7 4)
    ∷ Event (store (obj n_a n_m) 4096 (1 ∷ 2 ∷ 3 ∷ 4 ∷ 5 ∷ 6 ∷ 7 ∷ 8 ∷ []))
    ∷ Event (write (obj n_a n_q1) 1 16777218 4096 8192 8192 33554435)
    ∷ Event (posting (obj n_a n_q2) 2 kind.Read 16777218 4096 4096 8192 33554435 None 0 0 false true)
    ∷ Event (recv (obj n_b n_q1) 3 33554434 8192 4096)
    ∷ Event (posting (obj n_a n_q1) 4 kind.Send 16777218 4096 4096 0 0 None 0 0 false true)
    ∷ Event (posting (obj n_a n_q2) 5 kind.FetchAdd 16777218 4096 8 8192 33554435 None 0 7 false true)
    ∷ Event (go (obj n_a n_q1))
    ∷ Event (go (obj n_a n_q2))
    ∷ Event (Deliver 1)
    ∷ Event (Deliver 2)
    ∷ Event (Stop n_b)
    ∷ Event (Restore n_b 3)
    ∷ Settles
    ∷ Event (Release n_b 2)
    ∷ Event (poll (obj n_a n_c) 64)
    ∷ Event (poll (obj n_b n_c) 64)
    ∷ Event (load (obj n_a n_m) 4096 8)
    ∷ Event (load (obj n_b n_n) 8192 16)
    ∷ []

-- what it is answered, in order
abbrev pub answers : List Answer
answers =
    made
    ++ Qp 65538
    ∷ Qp 131074
    ∷ Done
    ∷ Done
    ∷ Done
    ∷ Done
    ∷ Done
    ∷ Done
    ∷ Done
    ∷ Done
    ∷ sent 1
    ∷ sent 2
    ∷ took took_word.Acted 0 0
    ∷ took took_word.Bytes 3 4
    ∷ Stopped
    ∷ Done
    ∷ answer.Quiet []
    ∷ Done
    ∷ Polled (wc 65538 2 wc_kind.Read status.Success 4096 None ∷ wc 65537 1 wc_kind.Write status.Success 8192 None ∷ wc 65537 4 wc_kind.Send status.Success 4096 None ∷ wc 65538 5 wc_kind.FetchAdd status.Success 8 None ∷ [])
    ∷ Polled (wc 131073 3 wc_kind.Recv status.Success 4096 None ∷ [])
    ∷ Bytes (1 ∷ 2 ∷ 3 ∷ 4 ∷ 5 ∷ 6 ∷ 7 ∷ 8 ∷ [])
    ∷ Bytes (1 ∷ 2 ∷ 3 ∷ 4 ∷ 5 ∷ 6 ∷ 7 ∷ 15 ∷ 0 ∷ 0 ∷ 0 ∷ 0 ∷ 0 ∷ 0 ∷ 0 ∷ 0 ∷ [])
    ∷ []
