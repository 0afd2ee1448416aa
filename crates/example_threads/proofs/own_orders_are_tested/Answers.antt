use Rattle.std.proofs.Common.{refl}
use Rattle.order_rules.specs.Evaluate.{opened}
use Rattle.law_orders.specs.Fairness.{fairness_after}
use Rattle.example_threads.proofs.own_orders_are_tested.Goals as goal

pub returns-clause-fair : goal.returns-clause-fair
unfolding opened fairness_after
returns-clause-fair c = refl

pub returns-clause-beside : goal.returns-clause-beside
unfolding opened fairness_after
returns-clause-beside c = refl

pub returns-clause-twice : goal.returns-clause-twice
unfolding opened fairness_after
returns-clause-twice c = refl
