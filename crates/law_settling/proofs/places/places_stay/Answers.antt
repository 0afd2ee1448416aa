use Rattle.law_settling.proofs.places.Outlines.{enough}
use Rattle.law_settling.proofs.places.Staying.{events_keep, runs_keep, stay_on}
use Rattle.law_settling.proofs.places.places_stay.Goals as goal

pub returns-clause-event : goal.returns-clause-event
returns-clause-event c = events_keep

pub returns-clause-run : goal.returns-clause-run
returns-clause-run c = runs_keep

pub returns-clause-on : goal.returns-clause-on
returns-clause-on c = stay_on

pub returns-clause-outline : goal.returns-clause-outline
returns-clause-outline c = enough
