use Rattle.std.specs.Prelude.{refl}
use Rattle.protocol.specs.Evaluate.{computed}
use Rattle.example_scripts.proofs.packets.moves.other_resumes_change_nothing.Goals as goal

pub returns : goal.returns
unfolding computed
returns c = record { rows = refl; left = refl }
