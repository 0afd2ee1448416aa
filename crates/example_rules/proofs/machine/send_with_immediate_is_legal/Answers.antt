use Rattle.example_rules.proofs.Examples.{send_with_immediate_runs, send_with_immediate_is_heard}
use Rattle.example_rules.proofs.machine.send_with_immediate_is_legal.Goals as goal

pub returns-clause-run : goal.returns-clause-run
returns-clause-run c = send_with_immediate_runs

pub returns-clause-heard : goal.returns-clause-heard
returns-clause-heard c = send_with_immediate_is_heard
