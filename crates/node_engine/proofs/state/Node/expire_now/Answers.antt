use Rattle.protocol.specs.declared.events.Event.TheVariants as event
use Rattle.node_rules.specs.Serve.{expiring_one}
use Rattle.node_engine.proofs.Parts.{fails_as}
use Rattle.node_engine.proofs.Steps.{step_fails, step_then}
use Rattle.node_engine.proofs.OneTurn.{after_expiry}
use Rattle.node_engine.proofs.state.Node.expire_now.Goals as goal

pub returns-in_err-outcome : goal.returns-in_err-outcome
returns-in_err-outcome g c =
    fails_as (expiring_one c.args.end.now c.args.self.now) _ c.in_err-outcome.field-0.0 _ _ c.from_residual.result c.from_residual.ensures.1
    (step_fails c.args.self.now (event.Expire c.args.end.now) (after_expiry c.args.end.now) c.in_err-outcome.field-0.0 _ _ c.in_err-outcome.ensures.stepped)

pub returns : goal.returns
returns g c = step_then c.args.self.now (event.Expire c.args.end.now) (after_expiry c.args.end.now) c.step.new.self c.in_ok-outcome.outcome _ _ _ _ _ c.in_ok-outcome.ensures.stepped c.wait_out.ensures
