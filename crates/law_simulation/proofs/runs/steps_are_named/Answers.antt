use Rattle.law_simulation.proofs.runs.Inner.{named_more}
use Rattle.law_simulation.proofs.runs.Named.{each_named, runs_named}
use Rattle.law_simulation.proofs.runs.steps_are_named.Goals as goal

pub returns-clause-events : goal.returns-clause-events
returns-clause-events c = each_named c.events_follow.ensures (c.deliveries_follow.ensures c.datagrams_are_taken.ensures)

pub returns-clause-runs : goal.returns-clause-runs
returns-clause-runs c = runs_named (each_named c.events_follow.ensures (c.deliveries_follow.ensures c.datagrams_are_taken.ensures))

pub returns-clause-more : goal.returns-clause-more
returns-clause-more c = named_more
