use Rattle.node_rules.proofs.Following.{calls_go_on, whole_runs_are_the_function}
use Rattle.node_rules.proofs.what_is_told_decides_a_run.Goals as goal

pub returns-clause-calls : goal.returns-clause-calls
returns-clause-calls c = calls_go_on

pub returns-clause-whole : goal.returns-clause-whole
returns-clause-whole c = whole_runs_are_the_function
