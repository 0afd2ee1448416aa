use Rattle.std.proofs.Common.{◌≡◌, true, [], refl}
use Rattle.order_rules.specs.Evaluate.{answered, opened}
use Rattle.order_rules.specs.Openings.{openings}
use Rattle.order_rules.specs.Sides.{makes_a_second, world_of}
use Rattle.example_rules.specs.OrdersCases.{makes_a, second_a}
use Rattle.example_rules.proofs.orders.a_second_context_of_a_name_is_not_fair.Goals as goal

pub returns-clause-made : goal.returns-clause-made
unfolding answered
returns-clause-made c = refl

second : makes_a_second (world_of (openings 1) []) makes_a ≡ true
unfolding opened
second = refl

pub returns-clause-fresh : goal.returns-clause-fresh
returns-clause-fresh c f = let says = f 0 _ refl in let other = second in absurd (cc)
