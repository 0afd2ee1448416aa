use Rattle.example_rules.proofs.Examples.{one_atomic_runs, one_atomic_is_heard}
use Rattle.example_rules.proofs.machine.one_atomic_is_legal.Goals as goal

pub returns-clause-run : goal.returns-clause-run
returns-clause-run c = one_atomic_runs

pub returns-clause-heard : goal.returns-clause-heard
returns-clause-heard c = one_atomic_is_heard
