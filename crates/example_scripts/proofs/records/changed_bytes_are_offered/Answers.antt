use Rattle.std.proofs.Common.{refl}
use Rattle.trace_rules.specs.Evaluate.{recorded}
use Rattle.example_scripts.proofs.records.changed_bytes_are_offered.Goals as goal

pub returns : goal.returns
unfolding recorded
returns c = refl
