use Rattle.law_simulation.proofs.runs.Table.{law_is}
use Rattle.law_simulation.proofs.runs.law_holds.Goals as goal

pub returns : goal.returns
returns c = law_is c.starts.ensures c.runs_follow.ensures.run c.runs_follow.ensures.heard c.events_follow.ensures
