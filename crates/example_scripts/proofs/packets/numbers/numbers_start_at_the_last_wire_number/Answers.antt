use Rattle.std.specs.Prelude.{refl}
use Rattle.protocol.specs.Evaluate.{computed}
use Rattle.example_scripts.proofs.packets.numbers.numbers_start_at_the_last_wire_number.Goals as goal

pub returns-clause-wire : goal.returns-clause-wire
unfolding computed
returns-clause-wire c = refl

pub returns-clause-back : goal.returns-clause-back
unfolding computed
returns-clause-back c = refl
