use Rattle.law_simulation.proofs.responses.ResponseSequenceNak.{sequence_naks_taken}
use Rattle.law_simulation.proofs.responses.responses.sequence_naks_are_taken.Goals as goal

pub returns : goal.returns
returns c = sequence_naks_taken
