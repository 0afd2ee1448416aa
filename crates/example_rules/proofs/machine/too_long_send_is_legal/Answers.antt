use Rattle.example_rules.proofs.Examples.{too_long_send_runs, too_long_send_is_heard}
use Rattle.example_rules.proofs.machine.too_long_send_is_legal.Goals as goal

pub returns-clause-run : goal.returns-clause-run
returns-clause-run c = too_long_send_runs

pub returns-clause-heard : goal.returns-clause-heard
returns-clause-heard c = too_long_send_is_heard
