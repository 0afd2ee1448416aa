use Rattle.law_simulation.proofs.responses.ResponseNotReady.{not_ready_taken}
use Rattle.law_simulation.proofs.responses.responses.receiver_not_ready_is_taken.Goals as goal

pub returns : goal.returns
returns c = not_ready_taken
