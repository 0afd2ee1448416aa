use Rattle.law_simulation.proofs.runs.Acting.{acts_by_one, acts_once}
use Rattle.law_simulation.proofs.runs.once.requests_act_once.Goals as goal

pub returns-clause-step : goal.returns-clause-step
returns-clause-step c = acts_by_one

pub returns-clause-run : goal.returns-clause-run
returns-clause-run c = acts_once
