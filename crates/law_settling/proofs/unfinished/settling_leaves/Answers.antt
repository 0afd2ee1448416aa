use Rattle.law_settling.proofs.unfinished.Leaving.{leaves}
use Rattle.law_settling.proofs.unfinished.settling_leaves.Goals as goal

pub returns : goal.returns
returns c = leaves c.settling_rests.ensures c.settling_tells.ensures c.settling_wants.ensures
