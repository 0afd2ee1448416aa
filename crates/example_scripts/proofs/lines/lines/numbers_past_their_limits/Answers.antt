use Rattle.std.specs.Prelude.{refl}
use Rattle.example_scripts.proofs.EvaluateLines.{all_read}
use Rattle.example_scripts.proofs.lines.lines.numbers_past_their_limits.Goals as goal

pub returns : goal.returns
unfolding all_read
returns c = refl
