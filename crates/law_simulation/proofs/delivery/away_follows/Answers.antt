use Rattle.law_simulation.proofs.delivery.Arriving.{away_follows}
use Rattle.law_simulation.proofs.delivery.away_follows.Goals as goal

pub returns : goal.returns
returns c = λ k w m s h. away_follows w m k s h
