use Rattle.law_settling.proofs.sending_stops.Told.{told_all}
use Rattle.law_settling.proofs.sending_stops.stopped_is_told.Goals as goal

pub returns : goal.returns
returns c = told_all
