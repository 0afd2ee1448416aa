use Rattle.std.specs.Prelude.{refl}
use Rattle.protocol.specs.Evaluate.{played}
use Rattle.example_rules.proofs.protocol_runs.stopped_beside_an_ended_partner.Goals as goal

pub returns : goal.returns
unfolding played
returns c = refl
