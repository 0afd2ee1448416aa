use Rattle.std.proofs.Common.{sym, subst}
use Rattle.end_completions.specs.Payloads.{GivesBack}
use Rattle.end_completions.proofs.Given.{gives-none}
use Rattle.endpoint_core.specs.Ends.{untold_by}
use Rattle.context_core.proofs.leaving.give_end.Goals as goal

pub returns-in_default : goal.returns-in_default
returns-in_default c = subst (λ o. GivesBack c.args.pool.now c.args.pool.now (untold_by o)) (sym c.in_default.is) (gives-none c.args.pool.now)
