use Rattle.law_simulation.proofs.refusals.Turns.{are_idle}
use Rattle.law_simulation.proofs.refusals.idle_turns_are_taken.Goals as goal

pub returns : goal.returns
returns c = are_idle
