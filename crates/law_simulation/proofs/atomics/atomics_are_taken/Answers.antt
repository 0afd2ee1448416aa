use Rattle.law_simulation.proofs.atomics.Cases.{are_atom_turns}
use Rattle.law_simulation.proofs.atomics.atomics_are_taken.Goals as goal

pub returns : goal.returns
returns c = are_atom_turns
