use Rattle.std.proofs.Common.{◌≡◌, subst, sym}
use Rattle.node_rules.specs.Lines.{stepped}
use Rattle.node_rules.specs.Node.{Node}
use Rattle.node_rules.specs.Parts.{IsMadeWhole}
use Rattle.node_rules.specs.Told.{Contents}
use Rattle.protocol.specs.declared.events.Event.{Event}
use Rattle.protocol.specs.declared.images.Outcome.{Outcome}
use Rattle.node_engine.specs.Names.{stepping_pair}
use Rattle.node_engine.proofs.Parts.{fails_as}
use Rattle.node_engine.proofs.Steps.{step_fails, step_then}
use Rattle.node_engine.proofs.OneTurn.{after_step}
use Rattle.node_engine.proofs.state.Node.step_and_answer.Goals as goal

-- a step left this node, and that is the same one
leaves_same : (v : Node) (ev : Event) (n m : Node) (o : Outcome) (t t' : Contents) → n ≡ m → IsMadeWhole (stepping_pair v ev) (m, o) t t' → IsMadeWhole (stepping_pair v ev) (n, o) t t'
leaves_same v ev n m o t t' e a = subst (λ (k : Node). IsMadeWhole (stepping_pair v ev) (k, o) t t') (sym e) a

pub returns-in_err-outcome : goal.returns-in_err-outcome
returns-in_err-outcome g c =
    fails_as (stepped c.args.self.now c.args.event.now) _ c.in_err-outcome.field-0.0 _ _ c.from_residual.result c.from_residual.ensures.1
    (step_fails c.args.self.now c.args.event.now after_step c.in_err-outcome.field-0.0 _ _ c.in_err-outcome.ensures.stepped)

pub returns : goal.returns
returns g c =
    step_then c.args.self.now c.args.event.now after_step c.give_back.new.self c.in_ok-outcome.outcome _ _ _ _ _
    (leaves_same c.args.self.now c.args.event.now c.give_back.new.self c.step.new.self c.in_ok-outcome.outcome _ _ c.give_back.ensures c.in_ok-outcome.ensures.stepped)
    c.answer.ensures
