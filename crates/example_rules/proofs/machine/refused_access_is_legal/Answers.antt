use Rattle.example_rules.proofs.Examples.{refused_access_runs, refused_access_is_heard}
use Rattle.example_rules.proofs.machine.refused_access_is_legal.Goals as goal

pub returns-clause-run : goal.returns-clause-run
returns-clause-run c = refused_access_runs

pub returns-clause-heard : goal.returns-clause-heard
returns-clause-heard c = refused_access_is_heard
