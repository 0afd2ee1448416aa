-- It is the event's step.
use Rattle.std.proofs.Common.{◌≡◌, ap, arith, length, rules, subst}
use Rattle.std.proofs.lemmas.Bool.Decides.{nat_tests}
use Rattle.protocol.specs.State.{World}
use Rattle.protocol.specs.WorldStep.{world_step}
use Rattle.world_core.specs.Places.{HaveOwnIds}
use Rattle.world_core.proofs.world.World.transmit.Goals as goal

pub returns-clause-ok : goal.returns-clause-ok
unfolding world_step
returns-clause-ok c = c.transmit_at.ensures.ok

pub returns-clause-ids : goal.returns-clause-ids
returns-clause-ids c = subst (λ (w : World). HaveOwnIds w.devices) c.self.view_is c.self.invariant.ids

pub returns-clause-refused_first : goal.returns-clause-refused_first
returns-clause-refused_first c = λ few. c.transmit_at.ensures.refused_first

pub returns-then-next-gt-MOST_SENT-clause-refused_first : goal.returns-then-next-gt-MOST_SENT-clause-refused_first
returns-then-next-gt-MOST_SENT-clause-refused_first c = λ few.
    let seen : length c.self.inside.fabric ≡ length c.args.self.now.sent = ap (λ (w : World). length w.sent) c.self.view_is in
    absurd (first_of (omega (arith, seen, few, c.next.ensures.number), grind (arith, nat_tests, seen, few, c.next.ensures.number), search (rules, seen, few, c.next.ensures.number)))
