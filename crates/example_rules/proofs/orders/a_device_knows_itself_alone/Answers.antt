use Rattle.std.specs.Prelude.{refl}
use Rattle.order_rules.specs.Evaluate.{answers_after, outcome_after}
use Rattle.example_rules.proofs.orders.a_device_knows_itself_alone.Goals as goal

pub returns-clause-made : goal.returns-clause-made
unfolding outcome_after
returns-clause-made c = refl

pub returns-clause-unknown : goal.returns-clause-unknown
unfolding outcome_after
returns-clause-unknown c = refl

pub returns-clause-in_a_world : goal.returns-clause-in_a_world
unfolding answers_after
returns-clause-in_a_world c = refl
