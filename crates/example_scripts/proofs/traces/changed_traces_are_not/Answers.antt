use Rattle.std.proofs.Common.{refl}
use Rattle.run_traces.specs.Evaluate.{audited}
use Rattle.example_scripts.proofs.traces.changed_traces_are_not.Goals as goal

pub returns-clause-step : goal.returns-clause-step
unfolding audited
returns-clause-step c = refl

pub returns-clause-answer : goal.returns-clause-answer
unfolding audited
returns-clause-answer c = refl

pub returns-clause-other : goal.returns-clause-other
unfolding audited
returns-clause-other c = refl

pub returns-clause-cut : goal.returns-clause-cut
unfolding audited
returns-clause-cut c = refl

pub returns-clause-empty : goal.returns-clause-empty
unfolding audited
returns-clause-empty c = refl
