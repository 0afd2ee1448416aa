-- What is made is followed.
use Rattle.std.proofs.Common.{◌≡◌, ap, arith, length, rules, subst}
use Rattle.std.proofs.lemmas.Bool.Decides.{nat_tests}
use Rattle.std.proofs.lemmas.Result.{IfOk-weaker}
use Rattle.protocol.specs.State.{World}
use Rattle.protocol.specs.WorldStep.{world_step}
use Rattle.world_core.specs.Followed.{IsFollowed}
use Rattle.world_core.specs.Kept.{Makes}
use Rattle.world_core.specs.Places.{HaveOwnIds}
use Rattle.world_core.proofs.world.World.step.Goals as goal

pub returns-clause-followed : goal.returns-clause-followed
returns-clause-followed c =
    let w = c.args.self.now in
    let e = c.args.event.now in
    IfOk-weaker c.act.result (λ a. Makes (world_step w e) a c.act.new.self) (λ a. IsFollowed w e a c.act.new.self) (λ a made. c.steps_are_followed.ensures w c.act.new.self e a made) c.act.ensures.ok

pub returns-clause-ids : goal.returns-clause-ids
returns-clause-ids c = subst (λ (w : World). HaveOwnIds w.devices) c.self.view_is c.self.invariant.ids

pub returns-clause-refused_first : goal.returns-clause-refused_first
returns-clause-refused_first c = λ few. c.act.ensures.refused_first

pub returns-then-next-gt-MOST_SENT-clause-refused_first : goal.returns-then-next-gt-MOST_SENT-clause-refused_first
returns-then-next-gt-MOST_SENT-clause-refused_first c = λ few.
    let seen : length c.self.inside.fabric ≡ length c.args.self.now.sent = ap (λ (w : World). length w.sent) c.self.view_is in
    absurd (first_of (omega (arith, seen, few, c.next.ensures.number), grind (arith, nat_tests, seen, few, c.next.ensures.number), search (rules, seen, few, c.next.ensures.number)))
