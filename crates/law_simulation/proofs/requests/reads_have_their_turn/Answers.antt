use Rattle.law_simulation.proofs.requests.Cases.{are_read_turns}
use Rattle.law_simulation.proofs.requests.reads_have_their_turn.Goals as goal

pub returns : goal.returns
returns c = are_read_turns
