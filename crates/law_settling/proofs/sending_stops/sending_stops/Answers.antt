use Rattle.law_settling.proofs.sending_stops.Stops.{stops}
use Rattle.law_settling.proofs.sending_stops.sending_stops.Goals as goal

pub returns : goal.returns
returns c = stops c.draining_drains.ensures c.taking_lightens.ensures c.events_follow.ensures
