use Rattle.evac_plan.proofs.Cuts.{cut_settling, on_err}
use Rattle.evac_plan.proofs.Shown.{settled_on}
use Rattle.evac_plan.proofs.steps.settle.Goals as goal

pub returns-in_err-settle-clause-cut : goal.returns-in_err-settle-clause-cut
returns-in_err-settle-clause-cut g c = on_err _ c.from_residual.result (λ s shows. cut_settling s c.args.world.now c.settle.new.world shows c.in_err-settle.ensures.left)

pub returns-clause-ok : goal.returns-clause-ok
returns-clause-ok g c s shows = settled_on c.args.world.now c.settle.new.world s _ shows c.in_ok-settle.ensures.settled
