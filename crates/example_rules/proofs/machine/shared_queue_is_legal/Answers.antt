use Rattle.example_rules.proofs.Examples.{shared_queue_runs, shared_queue_is_heard}
use Rattle.example_rules.proofs.machine.shared_queue_is_legal.Goals as goal

pub returns-clause-run : goal.returns-clause-run
returns-clause-run c = shared_queue_runs

pub returns-clause-heard : goal.returns-clause-heard
returns-clause-heard c = shared_queue_is_heard
