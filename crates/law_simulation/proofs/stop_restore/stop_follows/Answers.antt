use Rattle.law_simulation.proofs.stop_restore.EventStop.{stop_follows}
use Rattle.law_simulation.proofs.stop_restore.stop_follows.Goals as goal

pub returns : goal.returns
returns c = λ name w m r s. stop_follows w m name s
