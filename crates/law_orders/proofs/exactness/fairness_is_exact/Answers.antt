use Rattle.law_orders.proofs.Exact.{exact}
use Rattle.law_orders.proofs.exactness.fairness_is_exact.Goals as goal

pub returns : goal.returns
returns c = exact c.askable_is_tested.ensures
