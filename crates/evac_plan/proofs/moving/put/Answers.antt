use Rattle.std.proofs.Common.{sym, ◌∙◌}
use Rattle.protocol.specs.Script.{Settles}
use Rattle.evac_rules.specs.Evacuation.{Tried, doing, placed, returned, tries}
use Rattle.law_moves.proofs.Leading.{placed_by_leads, tries_lead}
use Rattle.evac_plan.proofs.Cuts.{cut_after, cut_as, cut_before, on_err}
use Rattle.evac_plan.proofs.Putting.{put_none, put_some, steps_none, steps_some}
use Rattle.evac_plan.proofs.moving.put.Goals as goal

pub returns-in_err-target-clause-cut : goal.returns-in_err-target-clause-cut
returns-in_err-target-clause-cut g c = on_err _ c.from_residual.result (λ s shows.
    let x : Tried = tries s c.args.context c.args.targets.now in
    cut_before s x.state (placed s c.args.from c.args.targets.now c.args.context) c.try_each.new.world (c.in_err-target.ensures.cut s shows) (placed_by_leads x.state c.args.from c.args.context x.target))

pub returns-in_err-settle-in-Some-clause-cut : goal.returns-in_err-settle-in-Some-clause-cut
returns-in_err-settle-in-Some-clause-cut g c = on_err _ c.from_residual-in_err-settle-in-Some.result (λ s shows.
    let x : Tried = tries s c.args.context c.args.targets.now in
    let tried = c.in_ok-target.ensures.ok s shows in
    cut_after s x.state (placed s c.args.from c.args.targets.now c.args.context) c.settle.new.world (tries_lead s c.args.context c.args.targets.now)
    (cut_as x.state (doing x.state Settles) (placed s c.args.from c.args.targets.now c.args.context) c.settle.new.world
    (steps_some s c.args.from c.args.targets.now c.args.context c.in-Some.target (sym tried.0 ∙ c.in-Some.is)) (c.in_err-settle-in-Some.ensures.cut x.state tried.1)))

pub returns-in_err-take_back-in-None-clause-cut : goal.returns-in_err-take_back-in-None-clause-cut
returns-in_err-take_back-in-None-clause-cut g c = on_err _ c.from_residual-in_err-take_back-in-None.result (λ s shows.
    let x : Tried = tries s c.args.context c.args.targets.now in
    let tried = c.in_ok-target.ensures.ok s shows in
    cut_after s x.state (placed s c.args.from c.args.targets.now c.args.context) c.take_back.new.world (tries_lead s c.args.context c.args.targets.now)
    (cut_as x.state (returned x.state c.args.from c.args.context) (placed s c.args.from c.args.targets.now c.args.context) c.take_back.new.world
    (steps_none s c.args.from c.args.targets.now c.args.context (sym tried.0 ∙ c.in-None.is)) (c.in_err-take_back-in-None.ensures.cut x.state tried.1)))

pub returns-in_ok-settle-in-Some-clause-ok : goal.returns-in_ok-settle-in-Some-clause-ok
returns-in_ok-settle-in-Some-clause-ok g c s shows =
    let x : Tried = tries s c.args.context c.args.targets.now in
    let tried = c.in_ok-target.ensures.ok s shows in
    put_some s c.args.from c.args.targets.now c.args.context c.in-Some.target c.settle.new.world (sym tried.0 ∙ c.in-Some.is) (c.in_ok-settle-in-Some.ensures.ok x.state tried.1)

pub returns-in_ok-take_back-in-None-clause-ok : goal.returns-in_ok-take_back-in-None-clause-ok
returns-in_ok-take_back-in-None-clause-ok g c s shows =
    let x : Tried = tries s c.args.context c.args.targets.now in
    let tried = c.in_ok-target.ensures.ok s shows in
    put_none s c.args.from c.args.targets.now c.args.context c.take_back.new.world (sym tried.0 ∙ c.in-None.is) (c.in_ok-take_back-in-None.ensures.ok x.state tried.1)
