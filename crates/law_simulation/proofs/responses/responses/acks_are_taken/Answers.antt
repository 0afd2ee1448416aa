use Rattle.law_simulation.proofs.responses.ResponseAck.{acks_taken}
use Rattle.law_simulation.proofs.responses.responses.acks_are_taken.Goals as goal

pub returns : goal.returns
returns c = acks_taken
