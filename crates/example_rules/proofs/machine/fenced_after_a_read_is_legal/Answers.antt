use Rattle.example_rules.proofs.Examples.{fenced_after_a_read_runs, fenced_after_a_read_is_heard}
use Rattle.example_rules.proofs.machine.fenced_after_a_read_is_legal.Goals as goal

pub returns-clause-run : goal.returns-clause-run
returns-clause-run c = fenced_after_a_read_runs

pub returns-clause-heard : goal.returns-clause-heard
returns-clause-heard c = fenced_after_a_read_is_heard
