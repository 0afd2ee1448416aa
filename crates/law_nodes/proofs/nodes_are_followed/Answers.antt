use Rattle.std.proofs.Common.{sym, subst}
use Rattle.order_rules.specs.Bridge.{IsFairOrder}
use Rattle.law_nodes.specs.Composed.{lines_of_deeds}
use Rattle.law_nodes.proofs.Composing.{order_is_fair}
use Rattle.law_nodes.proofs.nodes_are_followed.Goals as goal

pub returns : goal.returns
returns c nodes es order composed =
    c.prepared_orders_are_legal.ensures es (lines_of_deeds nodes order) composed.preparing
    (subst (λ os. IsFairOrder os (lines_of_deeds nodes order)) (sym composed.prepared) (order_is_fair nodes es order composed))
