use Rattle.std.proofs.Common.{sym, ◌∙◌}
use Rattle.std.proofs.lemmas.Result.{IfOk-weaker, on_err_weaker}
use Rattle.evac_rules.specs.Evacuation.{Evacuation, doing, moves, placed, stop}
use Rattle.law_moves.proofs.Leading.{moves_leads, step_leads}
use Rattle.evac_plan.proofs.Cuts.{cut_after, cut_as, cut_here, on_err}
use Rattle.evac_plan.proofs.Putting.{shift_none, shift_some, steps_stopped}
use Rattle.evac_plan.proofs.Shown.{shows_same}
use Rattle.evac_plan.proofs.moving.shift.Goals as goal

pub returns-in_err-why-clause-cut : goal.returns-in_err-why-clause-cut
returns-in_err-why-clause-cut g c = on_err _ c.from_residual.result (λ s shows.
    cut_here s (moves s c.args.from c.args.targets.now c.args.context) c.stop.new.world (shows_same c.args.world.now c.stop.new.world s c.in_err-why.ensures.err shows) (moves_leads s c.args.from c.args.targets.now c.args.context))

pub returns-in-Some-clause-ok : goal.returns-in-Some-clause-ok
returns-in-Some-clause-ok g c s shows =
    let stopped = c.in_ok-why.ensures.ok s shows in
    shift_some s c.args.from c.args.targets.now c.args.context c.in-Some.why c.stop.new.world (sym stopped.0 ∙ c.in-Some.is) stopped.1

pub returns-in-None-clause-ok : goal.returns-in-None-clause-ok
returns-in-None-clause-ok g c = IfOk-weaker c.put.result _ _ (λ p put s shows.
    let stopped = c.in_ok-why.ensures.ok s shows in
    shift_none s c.args.from c.args.targets.now c.args.context p c.put.new.world (sym stopped.0 ∙ c.in-None.is) (put (doing s (stop c.args.context)) stopped.1)) c.put.ensures.ok

pub returns-in-None-clause-cut : goal.returns-in-None-clause-cut
returns-in-None-clause-cut g c = on_err_weaker c.put.result (λ cut s shows.
    let stopped = c.in_ok-why.ensures.ok s shows in
    let s1 : Evacuation = doing s (stop c.args.context) in
    cut_after s s1 (moves s c.args.from c.args.targets.now c.args.context) c.put.new.world (step_leads s (stop c.args.context) tt)
    (cut_as s1 (placed s1 c.args.from c.args.targets.now c.args.context) (moves s c.args.from c.args.targets.now c.args.context) c.put.new.world
    (steps_stopped s c.args.from c.args.targets.now c.args.context (sym stopped.0 ∙ c.in-None.is)) (cut s1 stopped.1))) c.put.ensures.cut
