use Rattle.law_settling.proofs.sending_stops.Sparing.{spares}
use Rattle.law_settling.proofs.sending_stops.sending_spares.Goals as goal

pub returns : goal.returns
returns c = spares c.taking_lightens.ensures c.events_follow.ensures
