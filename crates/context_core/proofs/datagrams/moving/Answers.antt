use Rattle.std.proofs.Common.{arith}
use Rattle.context_core.proofs.PacketSizes.{dest-small, moving-fits}
use Rattle.context_core.proofs.datagrams.moving.Goals as goal

pub returns-clause-fits : goal.returns-clause-fits
returns-clause-fits c = moving-fits c.args.opcode _ c.args.body c.requires (dest-small c.args.peer) (record { count = omega arith; ip = omega arith; port = omega arith })
