use Rattle.std.specs.Prelude.{refl}
use Rattle.protocol.specs.Evaluate.{computed}
use Rattle.example_scripts.proofs.packets.pieces.a_first_and_a_middle_ask_at_each_eighth_number.Goals as goal

pub returns : goal.returns
unfolding computed
returns c = refl
