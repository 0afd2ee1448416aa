use Rattle.law_settling.proofs.weights.Taking.{taken}
use Rattle.law_settling.proofs.weights.taking_lightens.Goals as goal

pub returns : goal.returns
returns c = taken
