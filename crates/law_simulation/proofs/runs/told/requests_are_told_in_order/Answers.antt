use Rattle.law_simulation.proofs.runs.Telling.{tells_by_one}
use Rattle.law_simulation.proofs.runs.told.requests_are_told_in_order.Goals as goal

pub returns : goal.returns
returns c = tells_by_one
