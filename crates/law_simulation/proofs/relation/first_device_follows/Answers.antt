use Rattle.protocol.specs.State.{empty_world}
use Rattle.packetless_machine.specs.Machine.{empty}
use Rattle.law_simulation.proofs.relation.first_device_follows.Goals as goal

pub returns : goal.returns
returns c = λ id address r. c.making_follows.ensures.device id address empty_world empty r c.starts.ensures
