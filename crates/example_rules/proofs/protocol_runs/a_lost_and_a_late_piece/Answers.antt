use Rattle.std.specs.Prelude.{refl}
use Rattle.protocol.specs.Evaluate.{played}
use Rattle.example_rules.proofs.protocol_runs.a_lost_and_a_late_piece.Goals as goal

pub returns : goal.returns
unfolding played
returns c = refl
