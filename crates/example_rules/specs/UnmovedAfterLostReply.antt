-- The same while the partner moves: the kept reply moves with it.
use Rattle.std.specs.Prelude.{List, ◌∷◌, ◌++◌}
use Rattle.rdma_types.specs.declared.answers.Answer.{Answer}
use Rattle.rdma_types.specs.declared.answers.Answer.TheVariants.{Done, Stopped, Expired}
use Rattle.rdma_types.specs.declared.answers.ArrivalEffect.TheVariants as took_word
use Rattle.protocol.specs.declared.events.WorldEvent.{WorldEvent}
use Rattle.protocol.specs.declared.events.WorldEvent.TheVariants.{Deliver, Stop, Restore}
use Rattle.example_rules.specs.Words.{obj, go, expire, sent, took}
use Rattle.example_rules.specs.ProtocolOpening.{usual, opening, opened, n_a, n_b, n_q}
use Rattle.example_rules.specs.LostAtomicReply.{lost, lost_answers, looks, shown}

-- the script
abbrev pub script : List WorldEvent
script =
    opening usual
    ++ lost
    ++ Stop n_b
    ∷ Restore n_b 3
    ∷ expire (obj n_a n_q)
    ∷ go (obj n_a n_q)
    ∷ Deliver 3
    ∷ Deliver 4
    ∷ go (obj n_b n_q)
    ∷ Deliver 5
    ∷ Deliver 6
    ∷ go (obj n_a n_q)
    ∷ Deliver 7
    ∷ Deliver 8
    ∷ looks

-- what it is answered, in order
abbrev pub answers : List Answer
answers =
    opened
    ++ lost_answers
    ++ Stopped
    ∷ Done
    ∷ Expired 1
    ∷ sent 3
    ∷ took took_word.Stopped 4 1
    ∷ took took_word.Paused 0 0
    ∷ sent 5
    ∷ took took_word.Resumed 6 1
    ∷ took took_word.Running 0 0
    ∷ sent 7
    ∷ took took_word.Old 8 1
    ∷ took took_word.Landed 0 0
    ∷ shown
