use Rattle.std.proofs.Common.{◌≡◌, true, false, take, refl}
use Rattle.protocol.specs.declared.events.Event.TheVariants as event
use Rattle.order_rules.specs.Evaluate.{answered, opened}
use Rattle.order_rules.specs.Openings.{openings}
use Rattle.order_rules.specs.Sides.{stops_beside_a_mover, world_of}
use Rattle.example_rules.specs.OrdersCases.{both_stop}
use Rattle.example_rules.proofs.orders.both_stop_is_not_one_sided.Goals as goal
use Rattle.std.specs.Prelude.{codes}

pub returns-clause-stopped : goal.returns-clause-stopped
unfolding answered
returns-clause-stopped c = refl

beside : stops_beside_a_mover (world_of (openings 1) (take 1 both_stop)) 1 (event.Stop (codes "a") false) ≡ true
unfolding opened
beside = refl

pub returns-clause-one_sided : goal.returns-clause-one_sided
returns-clause-one_sided c f = let says = f 1 _ refl in let other = beside in absurd (cc)
