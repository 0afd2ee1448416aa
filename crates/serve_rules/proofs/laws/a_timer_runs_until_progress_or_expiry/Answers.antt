use Rattle.serve_rules.proofs.Expiring.{a_due_timer_expires, a_timer_is_set_once, a_timer_runs_on}
use Rattle.serve_rules.proofs.laws.a_timer_runs_until_progress_or_expiry.Goals as goal

pub returns-clause-runs : goal.returns-clause-runs
returns-clause-runs c = a_timer_runs_on

pub returns-clause-expires : goal.returns-clause-expires
returns-clause-expires c = a_due_timer_expires

pub returns-clause-set : goal.returns-clause-set
returns-clause-set c = a_timer_is_set_once
