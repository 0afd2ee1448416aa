-- Events of network and time, one and many.
use Rattle.law_arrivals.proofs.Turns.{run-changes, turn-changes}
use Rattle.law_arrivals.proofs.laws.turns_change_what_arrivals_may.Goals as goal

pub returns-clause-event : goal.returns-clause-event
returns-clause-event c = turn-changes

pub returns-clause-run : goal.returns-clause-run
returns-clause-run c = run-changes
