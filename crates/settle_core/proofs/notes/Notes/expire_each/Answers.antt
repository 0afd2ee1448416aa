use Rattle.std.proofs.Common.{arith, ◌≤◌, length, take}
use Rattle.protocol.specs.Settle.{expire_visit, visiting}
use Rattle.settle_core.proofs.Ends.{visits_all, visits_begin, visits_more}
use Rattle.law_settling.specs.Events.{expire_events}
use Rattle.law_settling.proofs.steps.Events.{expire_lead}
use Rattle.settle_core.proofs.Cuts.{visits_cut}
use Rattle.settle_core.proofs.Goings.{on_err}
use Rattle.settle_core.proofs.notes.Notes.expire_each.Goals as goal

pub loop-end-init : goal.loop-end-init
loop-end-init c = visits_begin expire_visit c.args.world.now c.args.self.now c.args.ends.now

pub loop-end-preserved : goal.loop-end-preserved
loop-end-preserved c =
    visits_more expire_visit c.args.world.now c.loop-end.world c.expire.new.world c.args.self.now c.loop-end.self c.expire.new.self c.args.ends.now c.loop-end.end-index c.end-item.result c.loop-end-test.true c.end-item.is c.loop-end.invariant c.in_ok-expire.ensures.ok

pub returns-clause-ok : goal.returns-clause-ok
returns-clause-ok c =
    let all : length c.args.ends.now ≤ c.loop-end.end-index = omega (arith, c.loop-end-test.false) in
    visits_all expire_visit c.args.world.now c.loop-end.world c.args.self.now c.loop-end.self c.args.ends.now c.loop-end.end-index all c.loop-end.invariant

pub returns-in_err-expire-clause-cut : goal.returns-in_err-expire-clause-cut
returns-in_err-expire-clause-cut c =
    on_err c.from_residual.result
    (λ s h.
    visits_cut expire_visit expire_events (λ t o. (expire_lead t o).after) c.args.ends.now c.loop-end.end-index s c.end-item.result c.expire.new.world c.loop-end-test.true c.end-item.is
    (c.in_err-expire.ensures.cut (visiting expire_visit s (take c.loop-end.end-index c.args.ends.now)) (c.loop-end.invariant s h)))
