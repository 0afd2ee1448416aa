use Rattle.law_settling.proofs.completes.Telling.{tells}
use Rattle.law_settling.proofs.completes.settling_tells.Goals as goal

pub returns : goal.returns
returns c = tells c.taking_lightens.ensures c.events_follow.ensures c.draining_drains.ensures c.settling_ends.ensures c.settling_rests.ensures c.sending_stops.ensures c.sending_spares.ensures c.stopped_is_told.ensures
