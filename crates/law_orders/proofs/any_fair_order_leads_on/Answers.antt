-- The opening stands for a state of the machine, and each fair line leads to a world that does.
use Rattle.std.specs.Prelude.{[]}
use Rattle.std.proofs.Common.{◌∙◌}
use Rattle.order_rules.specs.Sides.{world_of}
use Rattle.law_orders.proofs.Prepared.{begun, starts}
use Rattle.law_orders.proofs.Walk.{Reached, fair_lines, walks}
use Rattle.law_orders.proofs.any_fair_order_leads_on.Goals as goal

pub returns : goal.returns
unfolding world_of
returns c w m ls opening fair =
    let reached : Reached w.devices m ls fair.order.untaken =
    walks c.events_follow.ensures c.runs_follow.ensures.run c.copies_stand.ensures w.devices m (begun w m opening) [] ls [] fair.order.untaken (fair_lines w.devices ls fair) fair.order.restored (starts w m opening) in
    record {
      run = reached.steps;
      is_run = reached.is_run;
      heard_all = reached.heard_all;
      world = reached.world;
      devices = reached.devices;
      again = λ none. record { stands = reached.stands; uncarried = reached.carried ∙ none };
    }
