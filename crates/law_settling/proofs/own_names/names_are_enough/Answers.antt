use Rattle.law_settling.proofs.own_names.Enough.{names_apart, names_enough}
use Rattle.law_settling.proofs.own_names.names_are_enough.Goals as goal

pub returns-clause-home : goal.returns-clause-home
returns-clause-home c = names_enough

pub returns-clause-apart : goal.returns-clause-apart
returns-clause-apart c = names_apart
