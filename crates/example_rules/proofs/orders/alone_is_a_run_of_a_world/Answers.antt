use Rattle.std.specs.Prelude.{refl}
use Rattle.order_rules.specs.Evaluate.{devices_after, devices_played, heard_of, heard_playing}
use Rattle.example_rules.proofs.orders.alone_is_a_run_of_a_world.Goals as goal

pub returns-clause-devices : goal.returns-clause-devices
unfolding devices_played
returns-clause-devices c = refl

pub returns-clause-devices_alone : goal.returns-clause-devices_alone
unfolding devices_after
returns-clause-devices_alone c = refl

pub returns-clause-heard : goal.returns-clause-heard
unfolding heard_playing
returns-clause-heard c = refl

pub returns-clause-heard_alone : goal.returns-clause-heard_alone
unfolding heard_of
returns-clause-heard_alone c = refl
