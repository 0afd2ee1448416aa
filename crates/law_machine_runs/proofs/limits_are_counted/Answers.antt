use Rattle.law_machine_runs.proofs.Counts.{expiries_only, waits_only}
use Rattle.law_machine_runs.proofs.Lasts.{one_expiry, one_wait}
use Rattle.law_machine_runs.proofs.limits_are_counted.Goals as goal

pub returns-clause-expiries : goal.returns-clause-expiries
returns-clause-expiries c = expiries_only

pub returns-clause-waits : goal.returns-clause-waits
returns-clause-waits c = waits_only

pub returns-clause-one_expiry : goal.returns-clause-one_expiry
returns-clause-one_expiry c = one_expiry

pub returns-clause-one_wait : goal.returns-clause-one_wait
returns-clause-one_wait c = one_wait
