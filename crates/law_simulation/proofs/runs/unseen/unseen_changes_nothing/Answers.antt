use Rattle.law_simulation.proofs.runs.Unchanged.{changes_nothing}
use Rattle.law_simulation.proofs.runs.unseen.unseen_changes_nothing.Goals as goal

pub returns : goal.returns
returns c = changes_nothing c.law_holds.ensures
