use Rattle.law_simulation.proofs.requests.Cases.{at_paused, are_ahead, are_message_repeats}
use Rattle.law_simulation.proofs.requests.early_requests_are_taken.Goals as goal

pub returns-clause-paused : goal.returns-clause-paused
returns-clause-paused c = at_paused

pub returns-clause-ahead : goal.returns-clause-ahead
returns-clause-ahead c = are_ahead

pub returns-clause-messages : goal.returns-clause-messages
returns-clause-messages c = are_message_repeats
