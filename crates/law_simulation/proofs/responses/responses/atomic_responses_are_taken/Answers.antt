use Rattle.law_simulation.proofs.responses.ResponseAtomic.{atomic_responses_taken}
use Rattle.law_simulation.proofs.responses.responses.atomic_responses_are_taken.Goals as goal

pub returns : goal.returns
returns c = atomic_responses_taken
