use Rattle.law_mailbox.proofs.opening.Beginning.{begins, begins_few}
use Rattle.law_mailbox.proofs.beginning_is_held.Goals as goal

pub returns-clause-held : goal.returns-clause-held
returns-clause-held c = begins c.steps_are_named.ensures.runs c.starts.ensures

pub returns-clause-few : goal.returns-clause-few
returns-clause-few c = begins_few c.steps_are_named.ensures.runs c.starts.ensures
