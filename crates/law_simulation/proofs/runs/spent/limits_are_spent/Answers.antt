use Rattle.law_simulation.proofs.runs.Statuses.{expiries_only, waits_only}
use Rattle.law_simulation.proofs.runs.spent.limits_are_spent.Goals as goal

pub returns-clause-expiries : goal.returns-clause-expiries
returns-clause-expiries c = expiries_only

pub returns-clause-waits : goal.returns-clause-waits
returns-clause-waits c = waits_only
