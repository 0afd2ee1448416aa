use Rattle.packetless_machine.specs.Machine.{empty}
use Rattle.packetless_machine.specs.Legal.{after}
use Rattle.order_rules.specs.Openings.{opening_events, opening_world}
use Rattle.law_orders.proofs.Opening.{opening_prepares}
use Rattle.law_orders.proofs.short_orders_are_runs.Goals as goal

pub returns : goal.returns
unfolding opening_world
returns c workers ls low high fair few =
    let opened = c.prepared_worlds_are_openings.ensures (opening_events workers) (opening_prepares workers) in
    c.any_short_order_is_a_run.ensures (opening_world workers) (after empty opened.run) ls opened.opening opened.unsent fair few
