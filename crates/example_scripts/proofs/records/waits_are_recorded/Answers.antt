use Rattle.std.proofs.Common.{refl}
use Rattle.trace_rules.specs.Evaluate.{recorded}
use Rattle.example_scripts.proofs.records.waits_are_recorded.Goals as goal

pub returns : goal.returns
unfolding recorded
returns c = refl
