use Rattle.law_mailbox.proofs.opening.FirstFurnished.{first_furnished}
use Rattle.law_mailbox.proofs.opening.Furnishing.{events_furnished, sends_furnished, stores_furnished, works_furnished}
use Rattle.law_mailbox.proofs.contexts_stay_furnished.Goals as goal

pub returns-clause-first : goal.returns-clause-first
returns-clause-first c = first_furnished c.steps_are_named.ensures.runs c.starts.ensures

pub returns-clause-events : goal.returns-clause-events
returns-clause-events c = events_furnished c.steps_are_named.ensures.events

pub returns-clause-works : goal.returns-clause-works
returns-clause-works c = works_furnished c.steps_are_named.ensures.events

pub returns-clause-stores : goal.returns-clause-stores
returns-clause-stores c = stores_furnished c.steps_are_named.ensures.events

pub returns-clause-sends : goal.returns-clause-sends
returns-clause-sends c = sends_furnished c.steps_are_named.ensures.events
