use Rattle.std.specs.Prelude.{refl}
use Rattle.protocol.specs.Evaluate.{computed}
use Rattle.example_rules.proofs.protocol_runs.no_bytes.Goals as goal

pub returns : goal.returns
unfolding computed
returns c = refl
