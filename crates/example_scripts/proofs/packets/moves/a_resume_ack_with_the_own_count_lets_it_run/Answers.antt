use Rattle.std.specs.Prelude.{refl}
use Rattle.protocol.specs.Evaluate.{computed}
use Rattle.example_scripts.proofs.packets.moves.a_resume_ack_with_the_own_count_lets_it_run.Goals as goal

pub returns : goal.returns
unfolding computed
returns c = record { rows = refl; left = refl }
