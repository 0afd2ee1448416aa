use Rattle.std.specs.Prelude.{refl}
use Rattle.protocol.specs.Evaluate.{computed}
use Rattle.protocol.specs.Dumps.{dump_bytes}
use Rattle.example_rules.proofs.protocol_runs.dump_written.Goals as goal

pub returns : goal.returns
unfolding computed dump_bytes
returns c = refl
