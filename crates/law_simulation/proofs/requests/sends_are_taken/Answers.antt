use Rattle.law_simulation.proofs.requests.Cases.{are_send_runs, are_send_dries}
use Rattle.law_simulation.proofs.requests.sends_are_taken.Goals as goal

pub returns-clause-run : goal.returns-clause-run
returns-clause-run c = are_send_runs

pub returns-clause-dry : goal.returns-clause-dry
returns-clause-dry c = are_send_dries
