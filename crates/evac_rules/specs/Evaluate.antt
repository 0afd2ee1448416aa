-- All that evacuations compute with, opened for worked examples.
use Rattle.std.specs.Prelude.{ℕ, List, Option}
use Rattle.protocol.specs.Evaluate.{played}
use Rattle.protocol.specs.Script.{Happening}
use Rattle.protocol.specs.State.{World}
use Rattle.protocol.specs.WorldStep.{world_after}
use Rattle.protocol.specs.declared.events.WorldEvent.{WorldEvent}
use Rattle.evac_rules.specs.declared.moves.Shifted.{Shifted}
use Rattle.evac_rules.specs.Evacuation as in_evacuation
use Rattle.evac_rules.specs.Evacuation.{Fault, evacuation}

-- what an evacuation does and tells
pub record Told : Type 0 where
  pub steps : List Happening
  pub moved : List Shifted
  pub fault : Option Fault

-- what an evacuation of a world does and tells
unfoldable pub evacuated : World → ℕ → List ℕ → Told
unfolding played in_evacuation.tries in_evacuation.moves in_evacuation.moving in_evacuation.evacuation
evacuated w from targets = let s = evacuation w from targets in record { steps = s.steps; moved = s.moved; fault = s.fault }

-- .. of the world after some events
unfoldable pub evacuated_after : World → List WorldEvent → ℕ → List ℕ → Told
unfolding evacuated
evacuated_after w events from targets = evacuated (world_after w events) from targets
