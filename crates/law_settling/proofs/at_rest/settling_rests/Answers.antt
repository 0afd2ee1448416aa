use Rattle.law_settling.proofs.at_rest.Resting.{rests}
use Rattle.law_settling.proofs.at_rest.settling_rests.Goals as goal

pub returns : goal.returns
returns c = rests c.taking_lightens.ensures c.events_follow.ensures c.settling_ends.ensures c.draining_drains.ensures c.settling_is_events.ensures c.settling_follows.ensures
