use Rattle.law_settling.proofs.places.Marking.{deliveries_mark_none, deliveries_mark_one, timers_mark_one, transmissions_mark_none}
use Rattle.law_settling.proofs.places.marks_change_at_one_end.Goals as goal

pub returns-clause-delivery : goal.returns-clause-delivery
returns-clause-delivery c = deliveries_mark_one

pub returns-clause-none : goal.returns-clause-none
returns-clause-none c = deliveries_mark_none

pub returns-clause-timer : goal.returns-clause-timer
returns-clause-timer c = timers_mark_one

pub returns-clause-transmission : goal.returns-clause-transmission
returns-clause-transmission c = transmissions_mark_none
