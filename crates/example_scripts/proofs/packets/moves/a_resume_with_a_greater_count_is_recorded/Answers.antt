use Rattle.std.specs.Prelude.{refl}
use Rattle.protocol.specs.Evaluate.{computed}
use Rattle.example_scripts.proofs.packets.moves.a_resume_with_a_greater_count_is_recorded.Goals as goal

pub returns : goal.returns
unfolding computed
returns c = record { rows = refl; left = refl }
