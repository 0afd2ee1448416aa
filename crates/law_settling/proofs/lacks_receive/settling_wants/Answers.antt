use Rattle.law_settling.proofs.lacks_receive.Wanting.{wants}
use Rattle.law_settling.proofs.lacks_receive.settling_wants.Goals as goal

pub returns : goal.returns
returns c = wants c.taking_lightens.ensures c.events_follow.ensures c.settling_ends.ensures c.draining_drains.ensures c.settling_rests.ensures
