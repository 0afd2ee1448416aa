-- The numbers of the datagrams that arrive are picked line by line, and each line is an event of the world, or none.
use Rattle.std.proofs.Common.{◌≡◌, [], sym, ap, subst, ◌∙◌}
use Rattle.order_rules.specs.Lines.{flown_after}
use Rattle.order_rules.specs.Order.{Each}
use Rattle.law_orders.proofs.Prepared.{begun, starts, starts_world}
use Rattle.law_orders.proofs.Short.{AreAlike, IsShort, numbers, numbers_right, shorts}
use Rattle.law_orders.proofs.Walk.{IsFairLine, fair_lines}
use Rattle.law_orders.proofs.any_short_order_is_a_run.Goals as goal

pub returns : goal.returns
unfolding flown_after
returns c w m ls opening unsent fair few =
    let lines : Each (IsFairLine w.devices) ls = fair_lines w.devices ls fair in
    let first = starts w m opening in
    let same : first.world ≡ w = starts_world w m opening in
    let alike : AreAlike [] first.world.sent = subst (AreAlike []) (sym (ap (λ v. v.sent) same ∙ unsent)) tt in
    let short : IsShort w.devices (numbers w.devices ls lines) [] ls first.world =
    shorts c.events_follow.ensures c.runs_follow.ensures.run c.copies_stand.ensures w.devices m (begun w m opening) (numbers w.devices ls lines) [] ls [] fair.order.untaken lines (numbers_right w.devices ls lines) few fair.order.restored first alike in
    let there : IsShort w.devices (numbers w.devices ls lines) [] ls w = subst (IsShort w.devices (numbers w.devices ls lines) [] ls) same short in
    record { number = numbers w.devices ls lines; reached = there.reached; heard_same = there.heard }
