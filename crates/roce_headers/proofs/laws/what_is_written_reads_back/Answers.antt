use Rattle.protocol.specs.Wire.{wire_of}
use Rattle.protocol.proofs.PacketGrammar.{spelled_read}
use Rattle.protocol.proofs.WrittenPackets.{written_spelled}
use Rattle.roce_headers.proofs.laws.what_is_written_reads_back.Goals as goal

pub returns : goal.returns
returns c = λ d fits. spelled_read d (wire_of d) (written_spelled d fits)
