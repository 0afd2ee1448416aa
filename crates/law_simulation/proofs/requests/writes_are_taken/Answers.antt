use Rattle.law_simulation.proofs.requests.Cases.{are_write_runs, are_write_dries}
use Rattle.law_simulation.proofs.requests.writes_are_taken.Goals as goal

pub returns-clause-run : goal.returns-clause-run
returns-clause-run c = are_write_runs

pub returns-clause-dry : goal.returns-clause-dry
returns-clause-dry c = are_write_dries
