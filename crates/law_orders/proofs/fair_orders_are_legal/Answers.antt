use Rattle.order_rules.specs.Openings.{opening_events, opening_verbs, opening_world}
use Rattle.law_orders.proofs.Opening.{opening_prepares}
use Rattle.law_orders.proofs.fair_orders_are_legal.Goals as goal

pub returns : goal.returns
unfolding opening_world opening_verbs
returns c workers ls low high fair = c.prepared_orders_are_legal.ensures (opening_events workers) ls (opening_prepares workers) fair
