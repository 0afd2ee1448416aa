use Rattle.law_settling.proofs.draining.Passes.{drains}
use Rattle.law_settling.proofs.draining.draining_drains.Goals as goal

pub returns : goal.returns
returns c = drains
