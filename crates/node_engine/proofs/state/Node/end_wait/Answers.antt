use Rattle.node_rules.specs.Node.{Node}
use Rattle.node_rules.specs.Plan.{Plan}
use Rattle.protocol.specs.declared.events.Event.TheVariants as event
use Rattle.protocol.specs.declared.images.Outcome.{Outcome}
use Rattle.node_rules.specs.Node.{stepping}
use Rattle.node_engine.proofs.Parts.{fails_as}
use Rattle.node_engine.proofs.Steps.{step_comes, step_fails}
use Rattle.node_engine.proofs.state.Node.end_wait.Goals as goal

pub returns-in_err-_outcome : goal.returns-in_err-_outcome
returns-in_err-_outcome g c =
    fails_as (λ more. stepping c.args.self.now (event.RnrOver c.args.end.now) (λ n x. more n)) _ c.in_err-_outcome.field-0.0 _ _ c.from_residual.result c.from_residual.ensures.1
    (step_fails c.args.self.now (event.RnrOver c.args.end.now) (λ (n : Node) (x : Outcome) (more : Node → Plan). more n) c.in_err-_outcome.field-0.0 _ _ c.in_err-_outcome.ensures.stepped)

pub returns : goal.returns
returns g c = step_comes c.args.self.now (event.RnrOver c.args.end.now) (λ (n : Node) (x : Outcome) (more : Node → Plan). more n) c.step.new.self _ _ _ c.in_ok-_outcome.ensures.stepped
