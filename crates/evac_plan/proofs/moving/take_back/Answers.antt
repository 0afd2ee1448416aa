use Rattle.std.proofs.Common.{refl}
use Rattle.std.proofs.lemmas.Result.{on_err_weaker, on_ok_weaker}
use Rattle.protocol.specs.Script.{Settles}
use Rattle.evac_rules.specs.Evacuation.{Evacuation, doing, release, restore, returned}
use Rattle.law_moves.proofs.Leading.{returned_leads, step_leads}
use Rattle.evac_plan.proofs.Cuts.{cut_after, cut_as, cut_here, on_err}
use Rattle.evac_plan.proofs.Putting.{both_leads, released_leads, shows_returned}
use Rattle.evac_plan.proofs.Shown.{shows_same}
use Rattle.evac_plan.proofs.moving.take_back.Goals as goal

pub returns-in_err-release-clause-cut : goal.returns-in_err-release-clause-cut
returns-in_err-release-clause-cut g c = on_err _ c.from_residual.result (λ s shows.
    cut_here s (returned s c.args.from c.args.context) c.release.new.world (shows_same c.args.world.now c.release.new.world s c.in_err-release.ensures.err shows) (returned_leads s c.args.from c.args.context))

pub returns-in_err-_taken-clause-cut : goal.returns-in_err-_taken-clause-cut
returns-in_err-_taken-clause-cut g c = on_err _ c.from_residual-in_err-_taken.result (λ s shows.
    let a : Evacuation = doing s (release c.args.context c.args.from) in
    cut_after s a (returned s c.args.from c.args.context) c.restore.new.world (step_leads s (release c.args.context c.args.from) tt)
    (cut_here a (returned s c.args.from c.args.context) c.restore.new.world (shows_same c.release.new.world c.restore.new.world a c.in_err-_taken.ensures.err (c.in_ok-release.ensures.ok s shows)) (released_leads s c.args.from c.args.context)))

pub returns-clause-ok : goal.returns-clause-ok
returns-clause-ok g c = on_ok_weaker c.settle.result (λ settled s shows.
    let a : Evacuation = doing s (release c.args.context c.args.from) in
    let b : Evacuation = doing a (restore c.args.context c.args.from) in
    shows_returned s c.args.from c.args.context c.settle.new.world (settled b (c.in_ok-_taken.ensures.ok a (c.in_ok-release.ensures.ok s shows)).1)) c.settle.ensures.ok

pub returns-clause-cut : goal.returns-clause-cut
returns-clause-cut g c = on_err_weaker c.settle.result (λ cut s shows.
    let a : Evacuation = doing s (release c.args.context c.args.from) in
    let b : Evacuation = doing a (restore c.args.context c.args.from) in
    cut_after s b (returned s c.args.from c.args.context) c.settle.new.world (both_leads s c.args.from c.args.context)
    (cut_as b (doing b Settles) (returned s c.args.from c.args.context) c.settle.new.world refl (cut b (c.in_ok-_taken.ensures.ok a (c.in_ok-release.ensures.ok s shows)).1))) c.settle.ensures.cut
