use Rattle.std.proofs.Common.{ap, ◌∙◌}
use Rattle.protocol.specs.declared.events.WorldEvent.TheVariants as event
use Rattle.evac_rules.specs.Evacuation.{stay_of}
use Rattle.evac_plan.proofs.Shown.{answered_on, made_on}
use Rattle.evac_plan.proofs.steps.stop.Goals as goal

pub returns-clause-ok : goal.returns-clause-ok
returns-clause-ok c s shows = (
  c.stay_why.ensures ∙ ap stay_of (answered_on c.args.world.now c.step.new.self s (event.Stop c.args.context) _ shows c.in_ok-answer.ensures.ok),
  made_on c.args.world.now c.step.new.self s (event.Stop c.args.context) _ shows c.in_ok-answer.ensures.ok,
)
