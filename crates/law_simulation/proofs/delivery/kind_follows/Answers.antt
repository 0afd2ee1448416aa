use Rattle.law_simulation.proofs.delivery.EachKind.{kind_follows}
use Rattle.law_simulation.proofs.delivery.kind_follows.Goals as goal

pub returns : goal.returns
returns c = λ kind husks owed k w m s is. kind_follows kind husks owed k w m s is
