use Rattle.law_simulation.proofs.refusals.Turns.{agree}
use Rattle.law_simulation.proofs.refusals.checks_agree.Goals as goal

pub returns : goal.returns
returns c = agree
