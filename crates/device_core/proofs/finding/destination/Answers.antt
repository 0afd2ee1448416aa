-- Three bytes, the first of them the highest.
use Rattle.std.proofs.Common.{arith}
use Rattle.std.proofs.lemmas.Grind.{common_steps}
use Rattle.protocol.specs.Bytes.{number_at}
use Rattle.device_core.proofs.finding.destination.Goals as goal

pub returns : goal.returns
unfolding number_at
returns c = grind (arith, common_steps)
