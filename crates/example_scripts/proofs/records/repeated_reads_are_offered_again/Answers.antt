use Rattle.std.proofs.Common.{refl}
use Rattle.trace_rules.specs.Evaluate.{recorded}
use Rattle.example_scripts.proofs.records.repeated_reads_are_offered_again.Goals as goal

pub returns : goal.returns
unfolding recorded
returns c = refl
