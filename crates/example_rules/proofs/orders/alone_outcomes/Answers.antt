use Rattle.std.specs.Prelude.{refl}
use Rattle.order_rules.specs.Evaluate.{recomputed}
use Rattle.example_rules.proofs.orders.alone_outcomes.Goals as goal

pub returns-clause-outcomes : goal.returns-clause-outcomes
unfolding recomputed
returns-clause-outcomes c = refl

pub returns-clause-entries : goal.returns-clause-entries
returns-clause-entries c = refl
