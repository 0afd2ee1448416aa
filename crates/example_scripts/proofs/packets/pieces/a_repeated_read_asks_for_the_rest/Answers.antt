use Rattle.std.specs.Prelude.{refl}
use Rattle.protocol.specs.Evaluate.{computed}
use Rattle.example_scripts.proofs.packets.pieces.a_repeated_read_asks_for_the_rest.Goals as goal

pub returns-clause-span : goal.returns-clause-span
unfolding computed
returns-clause-span c = refl

pub returns-clause-opcode : goal.returns-clause-opcode
unfolding computed
returns-clause-opcode c = refl

pub returns-clause-reth : goal.returns-clause-reth
unfolding computed
returns-clause-reth c = refl

pub returns-clause-payload : goal.returns-clause-payload
unfolding computed
returns-clause-payload c = refl
