use Rattle.std.specs.Prelude.{refl}
use Rattle.protocol.specs.Evaluate.{computed}
use Rattle.protocol.specs.Fabric.{look}
use Rattle.example_rules.proofs.protocol_runs.flight_here.Goals as goal

pub returns : goal.returns
unfolding computed look
returns c = refl
