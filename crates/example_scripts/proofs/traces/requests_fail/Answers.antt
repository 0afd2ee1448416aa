use Rattle.std.proofs.Common.{refl}
use Rattle.run_traces.specs.Evaluate.{audited}
use Rattle.example_scripts.proofs.traces.requests_fail.Goals as goal

pub returns-clause-not_ready : goal.returns-clause-not_ready
unfolding audited
returns-clause-not_ready c = refl

pub returns-clause-refused : goal.returns-clause-refused
unfolding audited
returns-clause-refused c = refl
