-- Three worlds that settle: two pieces of a message are sent, and the first has acted; an atomic waits behind them.
use Rattle.std.specs.Prelude.{List, [], ◌∷◌}
use Rattle.protocol.specs.declared.events.Event.TheVariants.{Expire, Transmit}
use Rattle.protocol.specs.declared.events.WorldEvent.{WorldEvent}
use Rattle.protocol.specs.declared.events.WorldEvent.TheVariants.{At, Deliver, Lose}
use Rattle.example_rules.specs.RelationOpening.{a_q}

-- as it stands: the second piece is acknowledged, and the atomic is answered
abbrev pub whole : List WorldEvent
whole = Deliver 2 ∷ Deliver 3 ∷ At (Transmit a_q) ∷ Deliver 4 ∷ Deliver 5 ∷ []

-- the second piece is lost
abbrev pub loses_a_piece : List WorldEvent
loses_a_piece = Lose 2 ∷ []

-- .. so the atomic comes ahead of it, a NAK asks for it, and both are sent again
abbrev pub sent_again : List WorldEvent
sent_again = At (Transmit a_q) ∷ Deliver 3 ∷ Deliver 4 ∷ At (Transmit a_q) ∷ Deliver 5 ∷ Deliver 6 ∷ At (Transmit a_q) ∷ Deliver 7 ∷ Deliver 8 ∷ []

-- the atomic is lost too
abbrev pub loses_both : List WorldEvent
loses_both = At (Transmit a_q) ∷ Lose 2 ∷ Lose 3 ∷ []

-- .. so nothing is pending, the time runs out, and all three are sent again; the first is acknowledged again
abbrev pub expired : List WorldEvent
expired =
    At (Expire a_q)
    ∷ At (Transmit a_q)
    ∷ Deliver 4
    ∷ Deliver 5
    ∷ At (Transmit a_q)
    ∷ Deliver 6
    ∷ Deliver 7
    ∷ At (Transmit a_q)
    ∷ Deliver 8
    ∷ Deliver 9
    ∷ []
