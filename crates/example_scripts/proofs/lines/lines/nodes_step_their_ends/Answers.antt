use Rattle.std.specs.Prelude.{refl}
use Rattle.example_scripts.proofs.EvaluateLines.{all_read_by_nodes}
use Rattle.example_scripts.proofs.lines.lines.nodes_step_their_ends.Goals as goal

pub returns : goal.returns
unfolding all_read_by_nodes
returns c = refl
