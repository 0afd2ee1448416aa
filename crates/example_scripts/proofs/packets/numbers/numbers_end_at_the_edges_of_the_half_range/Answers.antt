use Rattle.std.specs.Prelude.{refl}
use Rattle.protocol.specs.Evaluate.{computed}
use Rattle.example_scripts.proofs.packets.numbers.numbers_end_at_the_edges_of_the_half_range.Goals as goal

pub returns-clause-low : goal.returns-clause-low
unfolding computed
returns-clause-low c = refl

pub returns-clause-below : goal.returns-clause-below
unfolding computed
returns-clause-below c = refl

pub returns-clause-high : goal.returns-clause-high
unfolding computed
returns-clause-high c = refl

pub returns-clause-above : goal.returns-clause-above
unfolding computed
returns-clause-above c = refl

pub returns-clause-last : goal.returns-clause-last
unfolding computed
returns-clause-last c = refl
