use Rattle.std.specs.Prelude.{refl}
use Rattle.protocol.specs.Evaluate.{computed}
use Rattle.protocol.specs.Wire.{packet_of}
use Rattle.example_rules.proofs.protocol_runs.packet_read.Goals as goal

pub returns : goal.returns
unfolding computed packet_of
returns c = refl
