use Rattle.memory_keys.proofs.Protocol.{spot-cut}
use Rattle.memory_keys.proofs.laws.spots_have_the_protocols_bytes.Goals as goal

pub returns : goal.returns
returns c = λ x pool held e keyed. spot-cut x pool held e
