-- The same world and machine at different events: two pieces of a message are sent, and the first has acted.
use Rattle.std.specs.Prelude.{List, [], ◌∷◌}
use Rattle.protocol.specs.declared.events.Event.TheVariants.{Expire}
use Rattle.protocol.specs.declared.events.WorldEvent.{WorldEvent}
use Rattle.protocol.specs.declared.events.WorldEvent.TheVariants.{At, Deliver, Lose, Stop}
use Rattle.packetless_machine.specs.declared.steps.MachineStep.{MachineStep}
use Rattle.packetless_machine.specs.declared.steps.MachineStep.TheVariants as steps
use Rattle.example_rules.specs.MachineOpening.{word_b}
use Rattle.example_rules.specs.RelationOpening.{a_q}

-- the first piece again, the second piece, nothing that was sent, an expiry, a loss and a stop
abbrev pub events : List WorldEvent
events = Deliver 1 ∷ Deliver 2 ∷ Deliver 3 ∷ At (Expire a_q) ∷ Lose 2 ∷ Stop word_b ∷ []

-- the inner steps at each of them
abbrev pub inner : List (List MachineStep)
inner =
    []
    ∷ (steps.Run a_q 44 ∷ [])
    ∷ []
    ∷ (steps.Expire a_q ∷ [])
    ∷ []
    ∷ []
    ∷ []
