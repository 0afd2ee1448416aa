use Rattle.law_simulation.proofs.delivery.EachKind.{deliver_follows}
use Rattle.law_simulation.proofs.delivery.deliveries_follow.Goals as goal

pub returns : goal.returns
returns c = λ all k w m r s. deliver_follows all k w m s
