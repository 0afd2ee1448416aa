use Rattle.protocol.specs.declared.events.WorldEvent.TheVariants as event
use Rattle.evac_plan.proofs.Shown.{made_on}
use Rattle.evac_plan.proofs.steps.release.Goals as goal

pub returns-clause-ok : goal.returns-clause-ok
returns-clause-ok c s shows = made_on c.args.world.now c.step.new.self s (event.Release c.args.context c.args.device) _ shows c.in_ok-step.ensures.ok
