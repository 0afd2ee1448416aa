use Rattle.std.specs.Prelude.{refl}
use Rattle.example_scripts.proofs.EvaluateLines.{all_printed}
use Rattle.example_scripts.proofs.lines.answers.dumps.Goals as goal

pub returns : goal.returns
unfolding all_printed
returns c = refl
