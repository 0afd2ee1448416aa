use Rattle.law_simulation.specs.Packets.{IsAck}
use Rattle.law_simulation.proofs.delivery.acks_follow.Goals as goal

pub returns : goal.returns
returns c = λ husks owed. c.kind_follows.ensures IsAck husks owed
