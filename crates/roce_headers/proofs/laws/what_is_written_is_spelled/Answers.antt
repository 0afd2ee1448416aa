use Rattle.protocol.proofs.WrittenPackets.{written_spelled}
use Rattle.roce_headers.proofs.laws.what_is_written_is_spelled.Goals as goal

pub returns : goal.returns
returns c = written_spelled
