use Rattle.law_simulation.proofs.stop_restore.EventRestore.{restore_follows}
use Rattle.law_simulation.proofs.stop_restore.restore_follows.Goals as goal

pub returns : goal.returns
returns c = λ name device w m r s. restore_follows w m name device s
