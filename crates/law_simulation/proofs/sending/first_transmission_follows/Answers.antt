use Rattle.packetless_machine.specs.Machine.{empty}
use Rattle.protocol.specs.State.{empty_world}
use Rattle.law_simulation.proofs.sending.first_transmission_follows.Goals as goal

pub returns : goal.returns
returns c = λ o. c.sending_follows.ensures.transmit o empty_world empty tt c.starts.ensures
