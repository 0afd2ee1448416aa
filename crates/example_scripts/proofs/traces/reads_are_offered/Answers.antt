use Rattle.std.proofs.Common.{refl}
use Rattle.run_traces.specs.Evaluate.{audited}
use Rattle.example_scripts.proofs.traces.reads_are_offered.Goals as goal

pub returns-clause-again : goal.returns-clause-again
unfolding audited
returns-clause-again c = refl

pub returns-clause-changed : goal.returns-clause-changed
unfolding audited
returns-clause-changed c = refl
