-- Each arrival on a sound device changes only what it may.
use Rattle.law_arrivals.proofs.Arriving.{arrivals-change}
use Rattle.law_arrivals.proofs.laws.arrivals_change_what_they_may.Goals as goal

pub returns : goal.returns
returns c = arrivals-change
