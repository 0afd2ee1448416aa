use Rattle.law_orders.proofs.Exact.{fair_legal}
use Rattle.law_orders.proofs.exactness.fair_runs_are_legal.Goals as goal

pub returns : goal.returns
returns c = fair_legal c.any_fair_order_is_legal.ensures c.prepared_orders_are_legal.ensures c.fairness_is_exact.ensures
