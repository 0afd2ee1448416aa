use Rattle.std.specs.Prelude.{refl}
use Rattle.protocol.specs.Evaluate.{dump_said}
use Rattle.example_rules.proofs.protocol_runs.short_dump.Goals as goal

pub returns : goal.returns
unfolding dump_said
returns c = refl
