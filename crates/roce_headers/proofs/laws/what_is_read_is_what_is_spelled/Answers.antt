use Rattle.protocol.proofs.PacketGrammar.{read_spelled, spelled_read}
use Rattle.roce_headers.proofs.laws.what_is_read_is_what_is_spelled.Goals as goal

pub returns : goal.returns
returns c = λ d bs. (read_spelled d bs, spelled_read d bs)
