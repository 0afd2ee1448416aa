use Rattle.std.proofs.Common.{◌≡◌, ◌∙◌, sym, refl, Some, None, rules}
use Rattle.std.specs.Prelude.{option_map}
use Rattle.protocol.specs.Settle.{link_at}
use Rattle.world_core.specs.Lives.{link_view}
use Rattle.settle_core.proofs.EndTimers.{expire_none, expire_off, expire_on}
use Rattle.settle_core.proofs.Parts.{expire_cut}
use Rattle.settle_core.proofs.Goings.{on_err}
use Rattle.settle_core.proofs.notes.Notes.expire.Goals as goal

pub returns-in_default-clause-ok : goal.returns-in_default-clause-ok
returns-in_default-clause-ok c =
    let none : None ≡ option_map link_view (link_at c.args.world.now c.args.end.now) = search (rules, c.in_default.ensures) in
    expire_none c.args.world.now c.args.self.now c.args.end.now none

pub returns-then-not-may_expire-clause-ok : goal.returns-then-not-may_expire-clause-ok
returns-then-not-may_expire-clause-ok c =
    let there : Some c.in-Some.link ≡ option_map link_view (link_at c.args.world.now c.args.end.now) = search (rules, c.in-Some.ensures) in
    expire_off c.args.world.now c.args.self.now c.args.end.now c.in-Some.link there (sym c.may_expire.ensures ∙ search (rules, c.if-not-may_expire.true))

pub returns-clause-ok : goal.returns-clause-ok
returns-clause-ok c s h =
    let there : Some c.in-Some.link ≡ option_map link_view (link_at c.args.world.now c.args.end.now) = search (rules, c.in-Some.ensures) in
    expire_on c.args.world.now c.step.new.world c.args.self.now c.step.new.self _ c.args.end.now c.in-Some.link there (sym c.may_expire.ensures ∙ search (rules, c.if-not-may_expire.false)) c.in_ok-step.ensures.ok refl refl refl refl s h

pub returns-in_err-step-clause-cut : goal.returns-in_err-step-clause-cut
returns-in_err-step-clause-cut c =
    let there : Some c.in-Some.link ≡ option_map link_view (link_at c.args.world.now c.args.end.now) = search (rules, c.in-Some.ensures) in
    on_err c.from_residual.result
    (expire_cut c.args.world.now c.step.new.world c.args.self.now c.args.end.now c.in-Some.link there (sym c.may_expire.ensures ∙ search (rules, c.if-not-may_expire.false)) c.in_err-step.ensures.cut)
