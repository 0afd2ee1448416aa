-- A RESUME that comes again is acknowledged again, and changes nothing.
use Rattle.std.specs.Prelude.{List, [], ◌∷◌, ◌++◌}
use Rattle.rdma_types.specs.declared.answers.Answer.{Answer}
use Rattle.rdma_types.specs.declared.answers.Answer.TheVariants.{Done, Stopped}
use Rattle.rdma_types.specs.declared.answers.DropReason.TheVariants as why
use Rattle.rdma_types.specs.declared.answers.ArrivalEffect.TheVariants as took_word
use Rattle.protocol.specs.declared.events.WorldEvent.{WorldEvent}
use Rattle.protocol.specs.declared.events.WorldEvent.TheVariants.{Deliver, Stop, Restore}
use Rattle.example_rules.specs.Words.{obj, write, go, sent, took, silent}
use Rattle.example_rules.specs.ProtocolOpening.{usual, opening, opened, n_a, n_b, n_q}

-- the script
abbrev pub script : List WorldEvent
script =
    opening (record usual { bytes = 1024; rights = 2 })
    ++ write (obj n_a n_q) 1 16777218 4096 4 8192 33554435
    ∷ Stop n_b
    ∷ Restore n_b 3
    ∷ go (obj n_b n_q)
    ∷ go (obj n_b n_q)
    ∷ Deliver 1
    ∷ Deliver 2
    ∷ Deliver 3
    ∷ go (obj n_a n_q)
    ∷ Deliver 4
    ∷ Deliver 1
    ∷ []

-- what it is answered, in order
abbrev pub answers : List Answer
answers =
    opened
    ++ Done
    ∷ Stopped
    ∷ Done
    ∷ sent 1
    ∷ sent 2
    ∷ took took_word.Resumed 3 1
    ∷ took took_word.ResumeAck 4 1
    ∷ took took_word.Running 0 0
    ∷ sent 5
    ∷ silent why.Stale
    ∷ took took_word.ResumeAck 6 1
    ∷ []
