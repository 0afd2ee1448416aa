use Rattle.example_rules.proofs.Examples.{one_write_runs, one_write_is_heard}
use Rattle.example_rules.proofs.machine.one_write_is_legal.Goals as goal

pub returns-clause-run : goal.returns-clause-run
returns-clause-run c = one_write_runs

pub returns-clause-heard : goal.returns-clause-heard
returns-clause-heard c = one_write_is_heard
