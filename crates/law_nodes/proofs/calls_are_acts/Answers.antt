use Rattle.law_nodes.proofs.Doing.{calls_are_acts}
use Rattle.law_nodes.proofs.calls_are_acts.Goals as goal

pub returns : goal.returns
returns c = calls_are_acts
