use Rattle.std.proofs.Common.{arith}
use Rattle.std.proofs.lemmas.Option.{slice_get-get_or}
use Rattle.evac_plan.proofs.Cuts.{on_err}
use Rattle.evac_plan.proofs.Tries.{begins, goes_on, is_cut, is_found, is_untaken}
use Rattle.evac_plan.proofs.moving.try_each.Goals as goal

pub loop-target-init : goal.loop-target-init
loop-target-init c s shows = begins s c.args.context c.args.targets.now c.args.world.now shows

pub returns-in_err-restore-clause-cut : goal.returns-in_err-restore-clause-cut
returns-in_err-restore-clause-cut c = on_err _ c.from_residual.result (λ s shows. is_cut s c.args.context c.args.targets.now c.loop-target.target-index c.loop-target.world c.restore.new.world (c.loop-target.invariant s shows) c.in_err-restore.ensures.err)

pub returns-then-branch-clause-ok : goal.returns-then-branch-clause-ok
returns-then-branch-clause-ok c s shows =
    is_found s c.args.context c.args.targets.now c.loop-target.target-index c.loop-target.world c.restore.new.world (c.loop-target.invariant s shows) _
    (slice_get-get_or c.args.targets.now c.loop-target.target-index 0 (omega arith)) c.in_ok-restore.field-0 c.in_ok-restore.ensures.ok c.if-branch.true

pub loop-target-preserved : goal.loop-target-preserved
loop-target-preserved c s shows =
    goes_on s c.args.context c.args.targets.now c.loop-target.target-index c.loop-target.world c.restore.new.world (c.loop-target.invariant s shows) _
    (slice_get-get_or c.args.targets.now c.loop-target.target-index 0 (omega arith)) c.in_ok-restore.field-0 c.in_ok-restore.ensures.ok c.if-branch.false

pub returns-clause-ok : goal.returns-clause-ok
returns-clause-ok c s shows =
    is_untaken s c.args.context c.args.targets.now c.loop-target.target-index c.loop-target.world c.loop-target.world (c.loop-target.invariant s shows) (omega arith)
