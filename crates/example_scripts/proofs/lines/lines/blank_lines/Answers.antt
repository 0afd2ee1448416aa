use Rattle.std.specs.Prelude.{refl}
use Rattle.example_scripts.proofs.EvaluateLines.{all_read}
use Rattle.example_scripts.proofs.lines.lines.blank_lines.Goals as goal

pub returns : goal.returns
unfolding all_read
returns c = refl
