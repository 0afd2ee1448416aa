use Rattle.protocol.proofs.PacketGrammar.{read_spelled}
use Rattle.roce_headers.proofs.Ranges.{read_fits, all_small}
use Rattle.roce_headers.proofs.laws.what_is_read_can_be_written.Goals as goal

pub returns : goal.returns
returns c = λ d bs small read. read_fits bs (all_small bs small) d (read_spelled d bs read)
