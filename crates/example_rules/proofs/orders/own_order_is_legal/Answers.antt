use Rattle.std.proofs.Common.{◌≡◌, ◌++◌, refl, subst, sym}
use Rattle.protocol.specs.State.{empty_world}
use Rattle.packetless_machine.specs.Legal.{IsLegal}
use Rattle.law_simulation.specs.Law.{kept}
use Rattle.order_rules.specs.Bridge.{IsFairOrder}
use Rattle.order_rules.specs.Evaluate.{opened}
use Rattle.order_rules.specs.Hears.{heard}
use Rattle.example_rules.specs.OwnDevices.{heard_then, lines, opening, prepared}
use Rattle.example_rules.proofs.orders.own_order_is_legal.Goals as goal

heard_all : kept empty_world opening ++ heard lines ≡ prepared ++ heard_then
unfolding opened
heard_all = refl

pub returns : goal.returns
returns c =
    let prepares = c.own_devices_are_prepared.ensures in
    subst IsLegal heard_all (c.prepared_orders_are_legal.ensures opening lines prepares.prepared (subst (λ ds. IsFairOrder ds lines) (sym prepares.devices) c.own_order_is_fair.ensures))
