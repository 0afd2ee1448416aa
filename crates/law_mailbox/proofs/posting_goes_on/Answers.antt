use Rattle.law_mailbox.proofs.settling.Continuing.{begins_so, events_keep_so, works_keep_so}
use Rattle.law_mailbox.proofs.posting_goes_on.Goals as goal

pub returns-clause-begins : goal.returns-clause-begins
returns-clause-begins c = begins_so c.beginning_is_held.ensures.held

pub returns-clause-events : goal.returns-clause-events
returns-clause-events c = events_keep_so c.events_follow.ensures

pub returns-clause-works : goal.returns-clause-works
returns-clause-works c = works_keep_so c.steps_are_named.ensures.events
