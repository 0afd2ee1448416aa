use Rattle.example_rules.proofs.Examples.{in_use_runs, in_use_is_heard}
use Rattle.example_rules.proofs.machine.in_use_is_legal.Goals as goal

pub returns-clause-run : goal.returns-clause-run
returns-clause-run c = in_use_runs

pub returns-clause-heard : goal.returns-clause-heard
returns-clause-heard c = in_use_is_heard
