-- The last sixteen replies of atomics are kept, and an older repeat is silent.
use Rattle.std.specs.Prelude.{List, [], ◌∷◌, ◌++◌, Some, None, false}
use Rattle.rdma_types.specs.declared.answers.Answer.{Answer}
use Rattle.rdma_types.specs.declared.answers.Answer.TheVariants.{Done, Bytes}
use Rattle.rdma_types.specs.declared.answers.DropReason.TheVariants as why
use Rattle.rdma_types.specs.declared.answers.ArrivalEffect.TheVariants as took_word
use Rattle.rdma_types.specs.declared.requests.Kind.TheVariants as kind
use Rattle.protocol.specs.declared.events.WorldEvent.{WorldEvent}
use Rattle.protocol.specs.declared.events.WorldEvent.TheVariants.{Deliver}
use Rattle.example_rules.specs.Words.{obj, device, context, domain, region, cq, qp, connect, load, posting, go, sent, took, silent}
use Rattle.example_rules.specs.ProtocolOpening.{opened, n_a, n_b, n_c, n_m, n_n, n_p, n_q}

-- the script
abbrev pub script : List WorldEvent
script =
    device 1 167772161
    ∷ device 2 167772162
    ∷ device 3 167772163
    ∷ context n_a 1
    ∷ context n_b 2
    ∷ domain (obj n_a n_p)
    ∷ domain (obj n_b n_p)
    ∷ region (obj n_a n_m) (Some n_p) 4096 1024 15
    ∷ region (obj n_b n_n) (Some n_p) 8192 1024 8
    ∷ cq (obj n_a n_c) 16
    ∷ cq (obj n_b n_c) 16
    ∷ qp (obj n_a n_q) (Some n_p) (Some n_c) (Some n_c) 32 8
    ∷ qp (obj n_b n_q) (Some n_p) (Some n_c) (Some n_c) 32 8
    ∷ connect (obj n_a n_q) (obj n_b n_q) 256 100 200 7 7 4
    ∷ posting (obj n_a n_q) 1 kind.FetchAdd 16777218 4096 8 8192 33554435 None 0 1 false false
    ∷ go (obj n_a n_q)
    ∷ Deliver 1
    ∷ Deliver 2
    ∷ posting (obj n_a n_q) 2 kind.FetchAdd 16777218 4096 8 8192 33554435 None 0 1 false false
    ∷ go (obj n_a n_q)
    ∷ Deliver 3
    ∷ Deliver 4
    ∷ posting (obj n_a n_q) 3 kind.FetchAdd 16777218 4096 8 8192 33554435 None 0 1 false false
    ∷ go (obj n_a n_q)
    ∷ Deliver 5
    ∷ Deliver 6
    ∷ posting (obj n_a n_q) 4 kind.FetchAdd 16777218 4096 8 8192 33554435 None 0 1 false false
    ∷ go (obj n_a n_q)
    ∷ Deliver 7
    ∷ Deliver 8
    ∷ posting (obj n_a n_q) 5 kind.FetchAdd 16777218 4096 8 8192 33554435 None 0 1 false false
    ∷ go (obj n_a n_q)
    ∷ Deliver 9
    ∷ Deliver 10
    ∷ posting (obj n_a n_q) 6 kind.FetchAdd 16777218 4096 8 8192 33554435 None 0 1 false false
    ∷ go (obj n_a n_q)
    ∷ Deliver 11
    ∷ Deliver 12
    ∷ posting (obj n_a n_q) 7 kind.FetchAdd 16777218 4096 8 8192 33554435 None 0 1 false false
    ∷ go (obj n_a n_q)
    ∷ Deliver 13
    ∷ Deliver 14
    ∷ posting (obj n_a n_q) 8 kind.FetchAdd 16777218 4096 8 8192 33554435 None 0 1 false false
    ∷ go (obj n_a n_q)
    ∷ Deliver 15
    ∷ Deliver 16
    ∷ posting (obj n_a n_q) 9 kind.FetchAdd 16777218 4096 8 8192 33554435 None 0 1 false false
    ∷ go (obj n_a n_q)
    ∷ Deliver 17
    ∷ Deliver 18
    ∷ posting (obj n_a n_q) 10 kind.FetchAdd 16777218 4096 8 8192 33554435 None 0 1 false false
    ∷ go (obj n_a n_q)
    ∷ Deliver 19
    ∷ Deliver 20
    ∷ posting (obj n_a n_q) 11 kind.FetchAdd 16777218 4096 8 8192 33554435 None 0 1 false false
    ∷ go (obj n_a n_q)
    ∷ Deliver 21
    ∷ Deliver 22
    ∷ posting (obj n_a n_q) 12 kind.FetchAdd 16777218 4096 8 8192 33554435 None 0 1 false false
    ∷ go (obj n_a n_q)
    ∷ Deliver 23
    ∷ Deliver 24
    ∷ posting (obj n_a n_q) 13 kind.FetchAdd 16777218 4096 8 8192 33554435 None 0 1 false false
    ∷ go (obj n_a n_q)
    ∷ Deliver 25
    ∷ Deliver 26
    ∷ posting (obj n_a n_q) 14 kind.FetchAdd 16777218 4096 8 8192 33554435 None 0 1 false false
    ∷ go (obj n_a n_q)
    ∷ Deliver 27
    ∷ Deliver 28
    ∷ posting (obj n_a n_q) 15 kind.FetchAdd 16777218 4096 8 8192 33554435 None 0 1 false false
    ∷ go (obj n_a n_q)
    ∷ Deliver 29
    ∷ Deliver 30
    ∷ posting (obj n_a n_q) 16 kind.FetchAdd 16777218 4096 8 8192 33554435 None 0 1 false false
    ∷ go (obj n_a n_q)
    ∷ Deliver 31
    ∷ Deliver 32
    ∷ posting (obj n_a n_q) 17 kind.FetchAdd 16777218 4096 8 8192 33554435 None 0 1 false false
    ∷ go (obj n_a n_q)
    ∷ Deliver 33
    ∷ Deliver 34
    ∷ Deliver 1
    ∷ Deliver 3
    ∷ load (obj n_b n_n) 8192 8
    ∷ []

-- what it is answered, in order
abbrev pub answers : List Answer
answers =
    opened
    ++ Done
    ∷ sent 1
    ∷ took took_word.Old 2 1
    ∷ took took_word.Landed 0 0
    ∷ Done
    ∷ sent 3
    ∷ took took_word.Old 4 1
    ∷ took took_word.Landed 0 0
    ∷ Done
    ∷ sent 5
    ∷ took took_word.Old 6 1
    ∷ took took_word.Landed 0 0
    ∷ Done
    ∷ sent 7
    ∷ took took_word.Old 8 1
    ∷ took took_word.Landed 0 0
    ∷ Done
    ∷ sent 9
    ∷ took took_word.Old 10 1
    ∷ took took_word.Landed 0 0
    ∷ Done
    ∷ sent 11
    ∷ took took_word.Old 12 1
    ∷ took took_word.Landed 0 0
    ∷ Done
    ∷ sent 13
    ∷ took took_word.Old 14 1
    ∷ took took_word.Landed 0 0
    ∷ Done
    ∷ sent 15
    ∷ took took_word.Old 16 1
    ∷ took took_word.Landed 0 0
    ∷ Done
    ∷ sent 17
    ∷ took took_word.Old 18 1
    ∷ took took_word.Landed 0 0
    ∷ Done
    ∷ sent 19
    ∷ took took_word.Old 20 1
    ∷ took took_word.Landed 0 0
    ∷ Done
    ∷ sent 21
    ∷ took took_word.Old 22 1
    ∷ took took_word.Landed 0 0
    ∷ Done
    ∷ sent 23
    ∷ took took_word.Old 24 1
    ∷ took took_word.Landed 0 0
    ∷ Done
    ∷ sent 25
    ∷ took took_word.Old 26 1
    ∷ took took_word.Landed 0 0
    ∷ Done
    ∷ sent 27
    ∷ took took_word.Old 28 1
    ∷ took took_word.Landed 0 0
    ∷ Done
    ∷ sent 29
    ∷ took took_word.Old 30 1
    ∷ took took_word.Landed 0 0
    ∷ Done
    ∷ sent 31
    ∷ took took_word.Old 32 1
    ∷ took took_word.Landed 0 0
    ∷ Done
    ∷ sent 33
    ∷ took took_word.Old 34 1
    ∷ took took_word.Landed 0 0
    ∷ silent why.NoRepeat
    ∷ took took_word.Old 35 1
    ∷ Bytes (0 ∷ 0 ∷ 0 ∷ 0 ∷ 0 ∷ 0 ∷ 0 ∷ 17 ∷ [])
    ∷ []
