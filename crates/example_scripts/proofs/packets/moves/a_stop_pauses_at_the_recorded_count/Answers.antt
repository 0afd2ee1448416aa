use Rattle.std.specs.Prelude.{refl}
use Rattle.protocol.specs.Evaluate.{computed}
use Rattle.example_scripts.proofs.packets.moves.a_stop_pauses_at_the_recorded_count.Goals as goal

pub returns : goal.returns
unfolding computed
returns c = record { rows = refl; left = refl }
