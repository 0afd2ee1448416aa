use Rattle.law_nodes.proofs.Serving.{serving_is_acts}
use Rattle.law_nodes.proofs.serving_is_acts.Goals as goal

pub returns : goal.returns
returns c = serving_is_acts
