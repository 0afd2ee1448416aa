use Rattle.law_settling.proofs.own_names.Worlds.{events_keep_own, runs_have_own, runs_keep_own}
use Rattle.law_settling.proofs.own_names.names_stay_apart.Goals as goal

pub returns-clause-event : goal.returns-clause-event
returns-clause-event c = events_keep_own

pub returns-clause-on : goal.returns-clause-on
returns-clause-on c = runs_keep_own

pub returns-clause-run : goal.returns-clause-run
returns-clause-run c = runs_have_own
