-- Seven expiries are counted and the eighth ends the end; an expiry with nothing in flight is not counted.
use Rattle.std.specs.Prelude.{List, [], ◌∷◌, ◌++◌}
use Rattle.rdma_types.specs.declared.answers.Answer.{Answer}
use Rattle.rdma_types.specs.declared.answers.Answer.TheVariants.{Done, Spent, Expired, NotCounted}
use Rattle.rdma_types.specs.declared.answers.ExpiryIgnored.TheVariants as not_why
use Rattle.protocol.specs.declared.events.WorldEvent.{WorldEvent}
use Rattle.example_rules.specs.Words.{obj, write, go, expire, sent}
use Rattle.example_rules.specs.ProtocolOpening.{usual, opening, opened, n_a, n_q}

-- two expiries, and the write is sent again
abbrev pub again : List WorldEvent
again = expire (obj n_a n_q) ∷ expire (obj n_a n_q) ∷ go (obj n_a n_q) ∷ []

-- the script
abbrev pub script : List WorldEvent
script =
    opening usual
    ++ write (obj n_a n_q) 1 16777218 4096 4 8192 33554435
    ∷ go (obj n_a n_q)
    ∷ []
    ++ again
    ++ again
    ++ again
    ++ again
    ++ again
    ++ again
    ++ again
    ++ expire (obj n_a n_q)
    ∷ []

-- what it is answered, in order
abbrev pub answers : List Answer
answers =
    opened
    ++ Done
    ∷ sent 1
    ∷ Expired 1
    ∷ NotCounted not_why.Nothing
    ∷ sent 2
    ∷ Expired 2
    ∷ NotCounted not_why.Nothing
    ∷ sent 3
    ∷ Expired 3
    ∷ NotCounted not_why.Nothing
    ∷ sent 4
    ∷ Expired 4
    ∷ NotCounted not_why.Nothing
    ∷ sent 5
    ∷ Expired 5
    ∷ NotCounted not_why.Nothing
    ∷ sent 6
    ∷ Expired 6
    ∷ NotCounted not_why.Nothing
    ∷ sent 7
    ∷ Expired 7
    ∷ NotCounted not_why.Nothing
    ∷ sent 8
    ∷ Spent
    ∷ []
