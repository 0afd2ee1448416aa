use Rattle.std.proofs.Common.{refl}
use Rattle.run_traces.specs.Evaluate.{audited}
use Rattle.example_scripts.proofs.traces.owners_learn.Goals as goal

pub returns-clause-inside : goal.returns-clause-inside
unfolding audited
returns-clause-inside c = refl

pub returns-clause-finished : goal.returns-clause-finished
unfolding audited
returns-clause-finished c = refl
