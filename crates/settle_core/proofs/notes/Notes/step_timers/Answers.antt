use Rattle.std.proofs.Common.{arith, ◌≤◌, length, take}
use Rattle.protocol.specs.Settle.{rnr_visit, visiting}
use Rattle.settle_core.proofs.Ends.{visits_all, visits_begin, visits_more}
use Rattle.law_settling.specs.Events.{rnr_events}
use Rattle.law_settling.proofs.steps.Events.{rnr_lead}
use Rattle.settle_core.proofs.Cuts.{visits_cut}
use Rattle.settle_core.proofs.Goings.{on_err}
use Rattle.settle_core.proofs.notes.Notes.step_timers.Goals as goal

pub loop-end-init : goal.loop-end-init
loop-end-init c = visits_begin rnr_visit c.args.world.now c.args.self.now c.args.ends.now

pub loop-end-preserved : goal.loop-end-preserved
loop-end-preserved c =
    visits_more rnr_visit c.args.world.now c.loop-end.world c.step_timer.new.world c.args.self.now c.loop-end.self c.step_timer.new.self c.args.ends.now c.loop-end.end-index c.end-item.result c.loop-end-test.true c.end-item.is c.loop-end.invariant c.in_ok-step_timer.ensures.ok

pub returns-clause-ok : goal.returns-clause-ok
returns-clause-ok c =
    let all : length c.args.ends.now ≤ c.loop-end.end-index = omega (arith, c.loop-end-test.false) in
    visits_all rnr_visit c.args.world.now c.loop-end.world c.args.self.now c.loop-end.self c.args.ends.now c.loop-end.end-index all c.loop-end.invariant

pub returns-in_err-step_timer-clause-cut : goal.returns-in_err-step_timer-clause-cut
returns-in_err-step_timer-clause-cut c =
    on_err c.from_residual.result
    (λ s h.
    visits_cut rnr_visit rnr_events (λ t o. (rnr_lead t o).after) c.args.ends.now c.loop-end.end-index s c.end-item.result c.step_timer.new.world c.loop-end-test.true c.end-item.is
    (c.in_err-step_timer.ensures.cut (visiting rnr_visit s (take c.loop-end.end-index c.args.ends.now)) (c.loop-end.invariant s h)))
