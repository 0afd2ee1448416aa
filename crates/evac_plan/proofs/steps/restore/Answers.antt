use Rattle.std.proofs.Common.{ap, ◌∙◌}
use Rattle.protocol.specs.declared.events.WorldEvent.TheVariants as event
use Rattle.protocol.specs.WorldStep.{is_done}
use Rattle.evac_plan.proofs.Shown.{answered_on, made_on}
use Rattle.evac_plan.proofs.steps.restore.Goals as goal

pub returns-clause-ok : goal.returns-clause-ok
returns-clause-ok c s shows = (
  c.is_done.ensures ∙ ap is_done (answered_on c.args.world.now c.step.new.self s (event.Restore c.args.context c.args.device) _ shows c.in_ok-answer.ensures.ok),
  made_on c.args.world.now c.step.new.self s (event.Restore c.args.context c.args.device) _ shows c.in_ok-answer.ensures.ok,
)
