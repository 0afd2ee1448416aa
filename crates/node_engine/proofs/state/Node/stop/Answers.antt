use Rattle.protocol.specs.declared.events.Event.TheVariants as event
use Rattle.std.proofs.Common.{true}
use Rattle.node_rules.specs.Lines.{stopping}
use Rattle.node_engine.proofs.Parts.{fails_as}
use Rattle.node_engine.proofs.Steps.{step_fails, step_then}
use Rattle.node_engine.proofs.OneTurn.{after_stop}
use Rattle.node_engine.proofs.state.Node.stop.Goals as goal

pub returns-in_err-outcome : goal.returns-in_err-outcome
returns-in_err-outcome g c =
    fails_as (stopping c.args.self.now c.args.name c.args.file) _ c.in_err-outcome.field-0.0 _ _ c.from_residual.result c.from_residual.ensures.1
    (step_fails c.args.self.now (event.Stop c.args.name true) (after_stop c.args.file) c.in_err-outcome.field-0.0 _ _ c.in_err-outcome.ensures.stepped)

pub returns : goal.returns
returns g c = step_then c.args.self.now (event.Stop c.args.name true) (after_stop c.args.file) c.step.new.self c.in_ok-outcome.outcome _ _ _ _ _ c.in_ok-outcome.ensures.stepped c.store.ensures
