use Rattle.law_simulation.proofs.relation.Start.{empty_stands}
use Rattle.law_simulation.proofs.relation.making.starts.Goals as goal

pub returns : goal.returns
returns c = empty_stands
