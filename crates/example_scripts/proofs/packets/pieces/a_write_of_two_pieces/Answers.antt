use Rattle.std.specs.Prelude.{refl}
use Rattle.protocol.specs.Evaluate.{computed}
use Rattle.example_scripts.proofs.packets.pieces.a_write_of_two_pieces.Goals as goal

pub returns-clause-span : goal.returns-clause-span
unfolding computed
returns-clause-span c = refl

pub returns-clause-first : goal.returns-clause-first
unfolding computed
returns-clause-first c = refl

pub returns-clause-reth : goal.returns-clause-reth
unfolding computed
returns-clause-reth c = refl

pub returns-clause-payload : goal.returns-clause-payload
unfolding computed
returns-clause-payload c = refl

pub returns-clause-last : goal.returns-clause-last
unfolding computed
returns-clause-last c = refl

pub returns-clause-rest : goal.returns-clause-rest
unfolding computed
returns-clause-rest c = refl
