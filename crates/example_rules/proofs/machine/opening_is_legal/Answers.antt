use Rattle.example_rules.proofs.Examples.{opening_runs, opening_is_heard}
use Rattle.example_rules.proofs.machine.opening_is_legal.Goals as goal

pub returns-clause-run : goal.returns-clause-run
returns-clause-run c = opening_runs

pub returns-clause-heard : goal.returns-clause-heard
returns-clause-heard c = opening_is_heard
