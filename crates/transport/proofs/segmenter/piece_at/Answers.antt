use Rattle.std.proofs.Common.{arith}
use Rattle.std.proofs.lemmas.Grind.{common_steps}
use Rattle.transport.proofs.Pieces.{piece_begins_within}
use Rattle.transport.proofs.segmenter.piece_at.Goals as goal

pub overflow_mul-offset : goal.overflow_mul-offset
overflow_mul-offset c = let begins = piece_begins_within c.args.length c.args.mtu c.args.k c.requires.mtu c.requires.inside in rw c.from.ensures (omega (arith, begins))

pub overflow_cast-offset : goal.overflow_cast-offset
overflow_cast-offset c = let begins = piece_begins_within c.args.length c.args.mtu c.args.k c.requires.mtu c.requires.inside in rw c.from.ensures (omega (arith, begins))

pub overflow_sub-length : goal.overflow_sub-length
overflow_sub-length c = let begins = piece_begins_within c.args.length c.args.mtu c.args.k c.requires.mtu c.requires.inside in rw c.from.ensures begins

pub returns-clause-within : goal.returns-clause-within
returns-clause-within c = let begins = piece_begins_within c.args.length c.args.mtu c.args.k c.requires.mtu c.requires.inside in grind (arith, common_steps, begins)
