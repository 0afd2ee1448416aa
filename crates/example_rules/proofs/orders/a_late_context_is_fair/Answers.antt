use Rattle.std.proofs.Common.{[], refl}
use Rattle.order_rules.specs.Bridge.{IsAskedLine}
use Rattle.order_rules.specs.Evaluate.{heard_of, opened}
use Rattle.order_rules.specs.Openings.{openings}
use Rattle.order_rules.specs.Order.{IsLine}
use Rattle.order_rules.specs.Sides.{IsFreshLine, IsInTimeLine, IsOneSidedLine}
use Rattle.example_rules.specs.OrdersCases.{late_context}
use Rattle.example_rules.proofs.WorldOrders.{EachAfter, each_of}
use Rattle.example_rules.proofs.orders.a_late_context_is_fair.Goals as goal

by_line : EachAfter (IsLine (openings 1)) [] late_context
unfolding opened
by_line = (record { known = refl; place = refl; outcome = refl; first = refl; count = refl; arrived = tt }, (record { known = refl; place = refl; outcome = refl; first = refl; count = refl; arrived = tt }, tt))

one_sided : EachAfter (IsOneSidedLine (openings 1)) [] late_context
unfolding opened
one_sided = (refl, (refl, tt))

in_time : EachAfter (IsInTimeLine (openings 1)) [] late_context
in_time = (tt, (tt, tt))

asked : EachAfter (IsAskedLine (openings 1)) [] late_context
unfolding opened
asked = (record { askable = tt; at_home = refl }, (record { askable = tt; at_home = refl }, tt))

fresh : EachAfter (IsFreshLine (openings 1)) [] late_context
unfolding opened
fresh = (refl, (refl, tt))

pub returns-clause-fair : goal.returns-clause-fair
returns-clause-fair c = record {
  order = record { each = each_of (IsLine (openings 1)) late_context by_line; untaken = []; restored = ([], refl, ([], refl, refl)) };
  one_sided = each_of (IsOneSidedLine (openings 1)) late_context one_sided;
  in_time = each_of (IsInTimeLine (openings 1)) late_context in_time;
  asked = each_of (IsAskedLine (openings 1)) late_context asked;
  fresh = each_of (IsFreshLine (openings 1)) late_context fresh;
}

pub returns-clause-heard : goal.returns-clause-heard
unfolding heard_of
returns-clause-heard c = refl
