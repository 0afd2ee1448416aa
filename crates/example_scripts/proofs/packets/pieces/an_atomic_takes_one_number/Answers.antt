use Rattle.std.specs.Prelude.{refl}
use Rattle.protocol.specs.Evaluate.{computed}
use Rattle.example_scripts.proofs.packets.pieces.an_atomic_takes_one_number.Goals as goal

pub returns-clause-swap_span : goal.returns-clause-swap_span
unfolding computed
returns-clause-swap_span c = refl

pub returns-clause-swap : goal.returns-clause-swap
unfolding computed
returns-clause-swap c = refl

pub returns-clause-add_span : goal.returns-clause-add_span
unfolding computed
returns-clause-add_span c = refl

pub returns-clause-add : goal.returns-clause-add
unfolding computed
returns-clause-add c = refl
