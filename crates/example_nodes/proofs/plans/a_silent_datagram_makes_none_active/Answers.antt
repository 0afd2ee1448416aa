use Rattle.std.specs.Prelude.{refl}
use Rattle.example_nodes.specs.Evaluate.{run_of, spelled}
use Rattle.example_nodes.proofs.plans.a_silent_datagram_makes_none_active.Goals as goal

pub returns : goal.returns
unfolding run_of spelled
returns c = refl
