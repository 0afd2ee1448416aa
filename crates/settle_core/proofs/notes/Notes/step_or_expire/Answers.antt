use Rattle.settle_core.proofs.Ends.{timers_expired, timers_stepped}
use Rattle.settle_core.proofs.Visits.{on_ok}
use Rattle.settle_core.proofs.Cuts.{on_err_map}
use Rattle.settle_core.proofs.Parts.{timers_first, timers_then}
use Rattle.settle_core.proofs.Goings.{on_err}
use Rattle.settle_core.proofs.notes.Notes.step_or_expire.Goals as goal

pub returns-then-self-clause-ok : goal.returns-then-self-clause-ok
returns-then-self-clause-ok c = timers_stepped c.args.world.now c.step_timers.new.world c.args.self.now c.step_timers.new.self c.args.ends.now c.in_ok-step_timers.ensures.ok c.if-self.true

pub returns-clause-ok : goal.returns-clause-ok
returns-clause-ok c =
    on_ok c.expire_each.result
    (timers_expired c.args.world.now c.step_timers.new.world c.expire_each.new.world c.args.self.now c.step_timers.new.self c.expire_each.new.self c.args.ends.now c.in_ok-step_timers.ensures.ok c.if-self.false) c.expire_each.ensures.ok

pub returns-in_err-step_timers-clause-cut : goal.returns-in_err-step_timers-clause-cut
returns-in_err-step_timers-clause-cut c =
    on_err c.from_residual.result
    (timers_first c.args.world.now c.step_timers.new.world c.args.self.now c.args.ends.now c.in_err-step_timers.ensures.cut)

pub returns-clause-cut : goal.returns-clause-cut
returns-clause-cut c = on_err_map c.expire_each.result (timers_then c.args.world.now c.step_timers.new.world c.expire_each.new.world c.args.self.now c.step_timers.new.self c.args.ends.now c.in_ok-step_timers.ensures.ok c.if-self.false) c.expire_each.ensures.cut
