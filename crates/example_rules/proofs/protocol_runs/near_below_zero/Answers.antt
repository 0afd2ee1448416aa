use Rattle.std.specs.Prelude.{refl}
use Rattle.protocol.specs.Evaluate.{computed}
use Rattle.protocol.specs.Numbers.{unwrap_near}
use Rattle.example_rules.proofs.protocol_runs.near_below_zero.Goals as goal

pub returns : goal.returns
unfolding computed unwrap_near
returns c = refl
