use Rattle.std.proofs.Common.{refl}
use Rattle.trace_rules.specs.Evaluate.{recorded}
use Rattle.example_scripts.proofs.records.small_scripts_are_recorded.Goals as goal

pub returns-clause-none : goal.returns-clause-none
unfolding recorded
returns-clause-none c = refl

pub returns-clause-settles : goal.returns-clause-settles
unfolding recorded
returns-clause-settles c = refl
