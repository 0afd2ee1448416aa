use Rattle.std.proofs.Common.{arith, rules}
use Rattle.std.proofs.lemmas.Grind.{common_steps}
use Rattle.transport.proofs.Packets.{packet_with-told}
use Rattle.transport.proofs.Pieces.{span_within}
use Rattle.transport.proofs.segmenter.packet_of.Goals as goal

pub piece_at-offset-requires-clause-inside : goal.piece_at-offset-requires-clause-inside
piece_at-offset-requires-clause-inside c = omega (arith, span_within c.args.shape.now c.args.mtu)

pub returns-then-carries-3-clause-rule : goal.returns-then-carries-3-clause-rule
returns-then-carries-3-clause-rule c = λ p dest psn asks. packet_with-told _ c.args.shape.now p c.args.k c.args.mtu dest psn (record { opcode = first_of (search rules, grind (arith, common_steps)); remote = first_of (search rules, grind (arith, common_steps)); rest = first_of (search rules, grind (arith, common_steps)); imm = first_of (search rules, grind (arith, common_steps)); off = first_of (search rules, grind (arith, common_steps)); length = first_of (search rules, grind (arith, common_steps)) }) asks c.requires.inside (first_of (search rules, grind (arith, common_steps)))

pub returns-else-carries-3-clause-rule : goal.returns-else-carries-3-clause-rule
returns-else-carries-3-clause-rule c = λ p dest psn asks. packet_with-told _ c.args.shape.now p c.args.k c.args.mtu dest psn (record { opcode = first_of (search rules, grind (arith, common_steps)); remote = first_of (search rules, grind (arith, common_steps)); rest = first_of (search rules, grind (arith, common_steps)); imm = first_of (search rules, grind (arith, common_steps)); off = first_of (search rules, grind (arith, common_steps)); length = first_of (search rules, grind (arith, common_steps)) }) asks c.requires.inside (first_of (search rules, grind (arith, common_steps)))
