use Rattle.std.specs.Prelude.{refl}
use Rattle.order_rules.specs.Evaluate.{answered}
use Rattle.example_rules.proofs.orders.a_husk_is_released_before_a_move_back.Goals as goal

pub returns-clause-moved : goal.returns-clause-moved
unfolding answered
returns-clause-moved c = refl

pub returns-clause-refused : goal.returns-clause-refused
unfolding answered
returns-clause-refused c = refl
