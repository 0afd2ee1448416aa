-- A fence holds after its owner moved.
use Rattle.std.specs.Prelude.{List, [], ◌∷◌, None, true, false, ◌++◌}
use Rattle.rdma_types.specs.declared.answers.Answer.{Answer}
use Rattle.rdma_types.specs.declared.answers.Answer.TheVariants.{Done, Fenced, Stopped}
use Rattle.rdma_types.specs.declared.answers.ArrivalEffect.TheVariants as took_word
use Rattle.rdma_types.specs.declared.requests.Kind.TheVariants as kind
use Rattle.protocol.specs.declared.events.WorldEvent.{WorldEvent}
use Rattle.protocol.specs.declared.events.WorldEvent.TheVariants.{Deliver, Stop, Restore}
use Rattle.example_rules.specs.Words.{obj, posting, go, sent, took}
use Rattle.example_rules.specs.ProtocolOpening.{usual, opening, opened, n_a, n_q}

-- the script
abbrev pub script : List WorldEvent
script =
    opening usual
    ++ posting (obj n_a n_q) 1 kind.Read 16777218 4096 4 8192 33554435 None 0 0 false true
    ∷ posting (obj n_a n_q) 2 kind.Write 16777218 4100 4 8196 33554435 None 0 0 true true
    ∷ go (obj n_a n_q)
    ∷ go (obj n_a n_q)
    ∷ Stop n_a
    ∷ Restore n_a 3
    ∷ go (obj n_a n_q)
    ∷ Deliver 2
    ∷ Deliver 3
    ∷ go (obj n_a n_q)
    ∷ go (obj n_a n_q)
    ∷ []

-- what it is answered, in order
abbrev pub answers : List Answer
answers =
    opened
    ++ Done
    ∷ Done
    ∷ sent 1
    ∷ Fenced
    ∷ Stopped
    ∷ Done
    ∷ sent 2
    ∷ took took_word.Resumed 3 1
    ∷ took took_word.Running 0 0
    ∷ sent 4
    ∷ Fenced
    ∷ []
