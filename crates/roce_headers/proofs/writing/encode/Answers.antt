use Rattle.std.proofs.Common.{◌∙◌}
use Rattle.protocol.specs.Wire.{wire_of}
use Rattle.roce_headers.specs.Packets.{packet}
use Rattle.protocol.proofs.PacketGrammar.{spelled_read}
use Rattle.protocol.proofs.WrittenPackets.{written_parts, written_spelled}
use Rattle.roce_headers.proofs.writing.encode.Goals as goal

pub returns-clause-written : goal.returns-clause-written
returns-clause-written c = c.write_parts.ensures ∙ written_parts (packet c.args.d.now)

pub returns-clause-again : goal.returns-clause-again
returns-clause-again c =
    rw (c.write_parts.ensures ∙ written_parts (packet c.args.d.now)) (spelled_read _ (wire_of (packet c.args.d.now)) (written_spelled (packet c.args.d.now) c.requires.fits))
