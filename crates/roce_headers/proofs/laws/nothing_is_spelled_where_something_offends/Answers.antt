use Rattle.protocol.proofs.PacketGrammar.{spelled_unoffending, unoffending_spelled}
use Rattle.roce_headers.proofs.laws.nothing_is_spelled_where_something_offends.Goals as goal

pub returns : goal.returns
returns c = λ bs. (unoffending_spelled bs, λ found. spelled_unoffending found.0 bs found.1)
