-- Each arrival on a sound device reaches one end.
use Rattle.law_arrivals.proofs.Arriving.{arrivals-reach}
use Rattle.law_arrivals.proofs.laws.arrivals_reach_one_end.Goals as goal

pub returns : goal.returns
returns c = arrivals-reach
