use Rattle.std.proofs.Common.{◌≡◌, ◌∙◌, ap, map, refl, sym, subst, rules}
use Rattle.std.specs.Prelude.{IfSome}
use Rattle.protocol.specs.Settle.{marks}
use Rattle.world_core.specs.Lives.{live_list}
use Rattle.settle_core.specs.Marks.{view_mark}
use Rattle.settle_core.proofs.Noted.{changed_step, changed_told, list_marked}
use Rattle.settle_core.proofs.Worlds.{shown_step}
use Rattle.settle_core.proofs.Cuts.{none_cuts, step_cuts}
use Rattle.settle_core.proofs.Goings.{on_err}
use Rattle.settle_core.proofs.notes.Notes.step.Goals as goal

pub returns-then-self-clause-ok : goal.returns-then-self-clause-ok
returns-then-self-clause-ok c = changed_step c.args.world.now c.step.new.self c.args.self.now c.args.event.now c.in_ok-_answer.ensures.ok.left c.if-self.true

pub returns-clause-ok : goal.returns-clause-ok
returns-clause-ok c s shows =
    let seen : IfSome c.take.result (λ ends. map view_mark ends ≡ marks c.args.world.now) = subst (λ o. IfSome o (λ ends. map view_mark ends ≡ marks c.args.world.now)) (sym c.take.ensures.value) (shows.seen c.if-self.false) in
    let before : map view_mark c.as_slice.result.now ≡ marks c.args.world.now = ap (map view_mark) c.as_slice.ensures ∙ c.in_ok-before.ensures.marked seen in
    let listed : c.in_ok-after.after ≡ live_list c.step-2.new.self = search (rules, c.in_ok-after.ensures) in
    let after : map view_mark c.in_ok-after.after ≡ marks c.step-2.new.self = list_marked c.step-2.new.self c.in_ok-after.after listed in
    shown_step c.args.world.now c.step-2.new.self c.args.self.now _ s c.args.event.now shows c.in_ok-_answer-2.ensures.ok.left
    (changed_told c.args.world.now c.step-2.new.self c.args.self.now c.are_same.result c.as_slice.result.now c.as_slice-2.result.now c.if-self.false before
    (ap (map view_mark) c.as_slice-2.ensures ∙ after) c.are_same.ensures) refl refl (λ still. after)

pub returns-in_err-_answer-clause-cut : goal.returns-in_err-_answer-clause-cut
returns-in_err-_answer-clause-cut c =
    on_err c.from_residual.result
    (none_cuts c.args.world.now c.step.new.self c.args.self.now _ c.in_err-_answer.ensures.err)

pub returns-in_err-before-clause-cut : goal.returns-in_err-before-clause-cut
returns-in_err-before-clause-cut c =
    on_err c.from_residual-in_err-before.result
    (none_cuts c.args.world.now c.args.world.now c.args.self.now _ refl)

pub returns-in_err-_answer-2-clause-cut : goal.returns-in_err-_answer-2-clause-cut
returns-in_err-_answer-2-clause-cut c =
    on_err c.from_residual-in_err-_answer-2.result
    (none_cuts c.args.world.now c.step-2.new.self c.args.self.now _ c.in_err-_answer-2.ensures.err)

pub returns-in_err-after-clause-cut : goal.returns-in_err-after-clause-cut
returns-in_err-after-clause-cut c =
    on_err c.from_residual-in_err-after.result
    (step_cuts c.args.world.now c.step-2.new.self c.args.self.now c.args.event.now c.in_ok-_answer-2.ensures.ok.left)
