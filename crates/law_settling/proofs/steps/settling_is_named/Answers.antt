use Rattle.law_settling.proofs.steps.Events.{has_events, named}
use Rattle.law_settling.proofs.steps.settling_is_named.Goals as goal

pub returns-clause-events : goal.returns-clause-events
returns-clause-events c = has_events

pub returns-clause-follows : goal.returns-clause-follows
returns-clause-follows c = named c.steps_are_named.ensures.runs
