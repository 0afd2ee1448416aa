use Rattle.std.proofs.Common.{refl}
use Rattle.run_traces.specs.Evaluate.{audited}
use Rattle.example_scripts.proofs.traces.small_traces_are_audited.Goals as goal

pub returns : goal.returns
unfolding audited
returns c = refl
