use Rattle.law_settling.proofs.bound.Rounds.{ends}
use Rattle.law_settling.proofs.bound.settling_ends.Goals as goal

pub returns : goal.returns
returns c = ends c.draining_drains.ensures c.taking_lightens.ensures c.events_follow.ensures
