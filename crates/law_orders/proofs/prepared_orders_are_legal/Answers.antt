-- The run that prepared the devices goes on with that of the order.
use Rattle.std.proofs.Common.{◌++◌, ap, ◌∙◌}
use Rattle.packetless_machine.specs.Machine.{empty}
use Rattle.packetless_machine.specs.Legal.{after, seen}
use Rattle.protocol.specs.State.{empty_world}
use Rattle.protocol.specs.WorldStep.{world_after}
use Rattle.law_simulation.specs.Law.{kept}
use Rattle.law_simulation.proofs.runs.Runs.{runs_on, seen_on}
use Rattle.law_orders.proofs.prepared_orders_are_legal.Goals as goal

pub returns : goal.returns
returns c es ls prepared fair =
    let opened = c.prepared_worlds_are_openings.ensures es prepared in
    let legal = c.any_fair_order_is_legal.ensures (world_after empty_world es) (after empty opened.run) ls opened.opening fair in
    record {
      run = opened.run ++ legal.run;
      is_run = runs_on empty opened.run legal.run opened.is_run legal.is_run;
      heard_all = seen_on empty opened.run legal.run ∙ (ap (λ x. x ++ seen (after empty opened.run) legal.run) opened.heard_all ∙ ap (λ x. kept empty_world es ++ x) legal.heard_all);
    }
