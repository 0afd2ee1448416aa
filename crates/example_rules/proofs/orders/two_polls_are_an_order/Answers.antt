use Rattle.std.proofs.Common.{[], refl}
use Rattle.order_rules.specs.Evaluate.{opened}
use Rattle.order_rules.specs.Openings.{openings}
use Rattle.order_rules.specs.Order.{IsLine}
use Rattle.example_rules.specs.OrdersCases.{two_polls}
use Rattle.example_rules.proofs.WorldOrders.{EachAfter, each_of}
use Rattle.example_rules.proofs.orders.two_polls_are_an_order.Goals as goal

by_line : EachAfter (IsLine (openings 1)) [] two_polls
unfolding opened
by_line = (record { known = refl; place = refl; outcome = refl; first = refl; count = refl; arrived = tt }, (record { known = refl; place = refl; outcome = refl; first = refl; count = refl; arrived = tt }, tt))

pub returns : goal.returns
returns c = record { each = each_of (IsLine (openings 1)) two_polls by_line; untaken = []; restored = ([], refl, ([], refl, refl)) }
