use Rattle.std.proofs.Common.{arith}
use Rattle.std.proofs.lemmas.Grind.{common_steps}
use Rattle.transport.proofs.Pieces.{pieces-rounded}
use Rattle.transport.proofs.segmenter.pieces_of.Goals as goal

pub returns-clause-rule : goal.returns-clause-rule
returns-clause-rule c = grind (arith, common_steps, pieces-rounded c.args.length c.args.mtu c.requires)
