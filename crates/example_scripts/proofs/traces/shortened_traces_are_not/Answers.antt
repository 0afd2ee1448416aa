use Rattle.std.proofs.Common.{refl}
use Rattle.run_traces.specs.Evaluate.{audited}
use Rattle.example_scripts.proofs.traces.shortened_traces_are_not.Goals as goal

pub returns-clause-answer : goal.returns-clause-answer
unfolding audited
returns-clause-answer c = refl

pub returns-clause-step : goal.returns-clause-step
unfolding audited
returns-clause-step c = refl
