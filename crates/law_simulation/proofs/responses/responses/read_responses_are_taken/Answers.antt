use Rattle.law_simulation.proofs.responses.ResponseRead.{read_responses_taken}
use Rattle.law_simulation.proofs.responses.responses.read_responses_are_taken.Goals as goal

pub returns : goal.returns
returns c = read_responses_taken
