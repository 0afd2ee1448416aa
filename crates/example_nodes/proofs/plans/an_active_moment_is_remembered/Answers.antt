use Rattle.std.specs.Prelude.{refl}
use Rattle.example_nodes.specs.Evaluate.{run_of, spelled}
use Rattle.example_nodes.proofs.plans.an_active_moment_is_remembered.Goals as goal

pub returns : goal.returns
unfolding run_of spelled
returns c = refl
