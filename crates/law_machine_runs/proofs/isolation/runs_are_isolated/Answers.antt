use Rattle.law_machine_runs.proofs.Law.{owners_change, runs_isolated}
use Rattle.law_machine_runs.proofs.isolation.runs_are_isolated.Goals as goal

pub returns-clause-run : goal.returns-clause-run
returns-clause-run c = runs_isolated

pub returns-clause-owners : goal.returns-clause-owners
returns-clause-owners c = owners_change
