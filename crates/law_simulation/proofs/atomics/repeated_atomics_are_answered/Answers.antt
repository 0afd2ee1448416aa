use Rattle.law_simulation.proofs.atomics.Cases.{are_atomic_repeats}
use Rattle.law_simulation.proofs.atomics.repeated_atomics_are_answered.Goals as goal

pub returns : goal.returns
returns c = are_atomic_repeats
