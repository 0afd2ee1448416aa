use Rattle.node_engine.specs.declared.faults.NodeFault.TheVariants as fault
use Rattle.node_engine.specs.Names.{stepping_pair}
use Rattle.node_engine.proofs.Parts.{fails_as, ran_out_at_once}
use Rattle.node_engine.proofs.Steps.{step_made, step_stops}
use Rattle.node_engine.proofs.state.Node.step.Goals as goal

pub returns-in_err-outcome-clause-stepped : goal.returns-in_err-outcome-clause-stepped
returns-in_err-outcome-clause-stepped g c =
    fails_as (stepping_pair c.args.self.now (c.args.event.now)) _ fault.OutOfMemory _ _ c.from_residual.result c.from_residual.ensures.1
    (ran_out_at_once (stepping_pair c.args.self.now (c.args.event.now)) _)

pub returns-in_err-send_all-clause-stepped : goal.returns-in_err-send_all-clause-stepped
returns-in_err-send_all-clause-stepped g c =
    fails_as (stepping_pair c.args.self.now (c.args.event.now)) _ c.in_err-send_all.field-0.0 _ _ c.from_residual-in_err-send_all.result c.from_residual-in_err-send_all.ensures.1
    (step_stops c.args.self.now (c.args.event.now) c.in_ok-outcome.outcome c.as_slice.result.now c.in_err-send_all.field-0.0 _ _ c.in_ok-outcome.ensures.outcome c.as_slice.ensures c.in_err-send_all.ensures)

pub returns-clause-stepped : goal.returns-clause-stepped
returns-clause-stepped g c = step_made c.args.self.now (c.args.event.now) c.advance.new.self c.in_ok-outcome.outcome c.as_slice.result.now _ _ c.in_ok-outcome.ensures.node c.in_ok-outcome.ensures.outcome c.as_slice.ensures c.in_ok-send_all.ensures
