-- An end in Error hinders no stop of its partner, and a context comes back to a device once its husk there is released.
use Rattle.std.specs.Prelude.{List, [], ◌∷◌, ◌++◌, map}
use Rattle.rdma_types.specs.declared.answers.Answer.{Answer}
use Rattle.rdma_types.specs.declared.answers.Answer.TheVariants as answer
use Rattle.rdma_types.specs.declared.answers.Answer.TheVariants.{Done, Stopped, Refused}
use Rattle.rdma_types.specs.declared.answers.Refusal.TheVariants as refusal
use Rattle.rdma_types.specs.declared.answers.RefusalReason.TheVariants as refused
use Rattle.rdma_types.specs.declared.answers.ArrivalEffect.TheVariants as took_word
use Rattle.protocol.specs.declared.events.WorldEvent.TheVariants.{Deliver, Stop, Restore, Release}
use Rattle.rdma_types.specs.declared.answers.UnfinishedReason.TheVariants as left
use Rattle.protocol.specs.Script.{Happening, Event, Settles}
use Rattle.example_rules.specs.Words.{obj, write, poll, go, sent, took}
use Rattle.example_rules.specs.ProtocolOpening.{usual, opening, opened, n_a, n_b, n_c, n_q}

-- the script
abbrev pub script : List Happening
script =
    map Event (opening (record usual { bytes = 1024; rights = 4 }))
    ++ Event (write (obj n_a n_q) 1 16777218 4096 4 8192 33554435)
    ∷ Event (go (obj n_a n_q))
    ∷ Event (Deliver 1)
    ∷ Event (Stop n_b)
    ∷ Event (Stop n_a)
    ∷ Event (Deliver 2)
    ∷ Event (Restore n_b 3)
    ∷ Event (Stop n_b)
    ∷ Event (Restore n_b 2)
    ∷ Event (Release n_b 2)
    ∷ Event (Restore n_b 2)
    ∷ Settles
    ∷ Event (poll (obj n_a n_c) 4)
    ∷ []

-- what it is answered, in order
abbrev pub answers : List Answer
answers =
    opened
    ++ Done
    ∷ sent 1
    ∷ took (took_word.Refused refused.Access) 2 1
    ∷ Stopped
    ∷ Stopped
    ∷ took took_word.Stopped 3 1
    ∷ Done
    ∷ Stopped
    ∷ Refused refusal.NumberTaken
    ∷ Done
    ∷ Done
    ∷ answer.Quiet (((obj n_a n_q), left.Carried) ∷ [])
    ∷ Refused refusal.Stopped
    ∷ []
