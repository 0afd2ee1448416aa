-- Refusals of stops, restores and releases.
use Rattle.std.specs.Prelude.{List, [], ◌∷◌, ◌++◌}
use Rattle.rdma_types.specs.declared.answers.Answer.{Answer}
use Rattle.rdma_types.specs.declared.answers.Answer.TheVariants.{Done, Stopped, Refused}
use Rattle.rdma_types.specs.declared.answers.Refusal.TheVariants as refusal
use Rattle.protocol.specs.declared.events.WorldEvent.{WorldEvent}
use Rattle.protocol.specs.declared.events.WorldEvent.TheVariants.{Stop, Restore, Release}
use Rattle.example_rules.specs.Words.{obj, load}
use Rattle.example_rules.specs.ProtocolOpening.{usual, opening, opened, n_a, n_b, n_n}

-- the script
abbrev pub script : List WorldEvent
script =
    opening usual
    ++ Stop n_b
    ∷ Stop n_a
    ∷ load (obj n_b n_n) 8192 1
    ∷ Restore n_b 2
    ∷ Restore n_b 3
    ∷ Restore n_b 3
    ∷ Restore n_a 3
    ∷ Release n_b 2
    ∷ Release n_b 2
    ∷ []

-- what it is answered, in order
abbrev pub answers : List Answer
answers =
    opened
    ++ Stopped
    ∷ Refused refusal.PeerMoving
    ∷ Refused refusal.Stopped
    ∷ Refused refusal.NumberTaken
    ∷ Done
    ∷ Refused refusal.Spent
    ∷ Refused refusal.NoSuch
    ∷ Done
    ∷ Refused refusal.NoSuch
    ∷ []
