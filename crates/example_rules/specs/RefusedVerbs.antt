-- Refusals of verbs: names, lengths, keys, things in use, states, full queues and pages.
use Rattle.std.specs.Prelude.{List, [], ◌∷◌, Some, ◌++◌}
use Rattle.rdma_types.specs.declared.answers.Answer.{Answer}
use Rattle.rdma_types.specs.declared.answers.Answer.TheVariants.{Done, Qp, Refused}
use Rattle.rdma_types.specs.declared.answers.Refusal.TheVariants as refusal
use Rattle.protocol.specs.declared.events.WorldEvent.{WorldEvent}
use Rattle.example_rules.specs.Words.{obj, region, qp, drop, write, recv, region_keys}
use Rattle.example_rules.specs.ProtocolOpening.{usual, opening, opened, n_a, n_big, n_big2, n_c, n_m, n_p, n_q, n_s, n_z}

-- the script
abbrev pub script : List WorldEvent
script =
    opening usual
    ++ write (obj n_a n_z) 1 16777218 4096 4 8192 33554435
    ∷ region (obj n_a n_m) (Some n_p) 4096 64 1
    ∷ write (obj n_a n_q) 1 16777218 4096 1048577 8192 33554435
    ∷ write (obj n_a n_q) 1 16777218 4096 65 8192 33554435
    ∷ recv (obj n_a n_q) 7 16777218 4096 8
    ∷ drop (obj n_a n_m)
    ∷ qp (obj n_a n_s) (Some n_p) (Some n_c) (Some n_c) 1 1
    ∷ write (obj n_a n_s) 1 16777218 4096 4 8192 33554435
    ∷ recv (obj n_a n_s) 1 16777218 4096 8
    ∷ recv (obj n_a n_s) 1 16777218 4096 8
    ∷ write (obj n_a n_q) 1 16777218 4096 4 8192 33554435
    ∷ write (obj n_a n_q) 1 16777218 4096 4 8192 33554435
    ∷ write (obj n_a n_q) 1 16777218 4096 4 8192 33554435
    ∷ write (obj n_a n_q) 1 16777218 4096 4 8192 33554435
    ∷ write (obj n_a n_q) 1 16777218 4096 4 8192 33554435
    ∷ write (obj n_a n_q) 1 16777218 4096 4 8192 33554435
    ∷ write (obj n_a n_q) 1 16777218 4096 4 8192 33554435
    ∷ write (obj n_a n_q) 1 16777218 4096 4 8192 33554435
    ∷ write (obj n_a n_q) 1 16777218 4096 4 8192 33554435
    ∷ region (obj n_a n_big) (Some n_p) 0 16777216 1
    ∷ region (obj n_a n_big2) (Some n_p) 0 16777216 1
    ∷ []

-- what it is answered, in order
abbrev pub answers : List Answer
answers =
    opened
    ++ Refused refusal.NoSuch
    ∷ Refused refusal.NumberTaken
    ∷ Refused refusal.TooLong
    ∷ Refused refusal.BadKey
    ∷ Done
    ∷ Refused refusal.InUse
    ∷ Qp 65538
    ∷ Refused refusal.BadState
    ∷ Done
    ∷ Refused refusal.RqFull
    ∷ Done
    ∷ Done
    ∷ Done
    ∷ Done
    ∷ Done
    ∷ Done
    ∷ Done
    ∷ Done
    ∷ Refused refusal.SqFull
    ∷ region_keys 16777220 16777221
    ∷ Refused refusal.NoPage
    ∷ []
