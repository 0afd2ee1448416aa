use Rattle.law_simulation.proofs.stop_restore.EventRelease.{release_follows}
use Rattle.law_simulation.proofs.stop_restore.release_follows.Goals as goal

pub returns : goal.returns
returns c = λ name device w m r s. release_follows w m name device s
