use Rattle.law_simulation.proofs.responses.ResponseRefusal.{refusals_taken}
use Rattle.law_simulation.proofs.responses.responses.refusals_are_taken.Goals as goal

pub returns : goal.returns
returns c = refusals_taken
