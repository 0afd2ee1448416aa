use Rattle.protocol.specs.declared.events.Event.TheVariants as event
use Rattle.node_engine.specs.declared.faults.NodeFault.TheVariants as fault
use Rattle.node_engine.specs.Names.{stepping_pair}
use Rattle.node_engine.proofs.Parts.{fails_as, ran_out_at_once}
use Rattle.node_engine.proofs.Steps.{step_made, step_stops}
use Rattle.node_engine.proofs.state.Node.step_arrival.Goals as goal

pub returns-in_err-outcome : goal.returns-in_err-outcome
returns-in_err-outcome g c =
    fails_as (stepping_pair c.args.self.now (event.Arrive c.args.from c.args.bytes.now)) _ fault.OutOfMemory _ _ c.from_residual.result c.from_residual.ensures.1
    (ran_out_at_once (stepping_pair c.args.self.now (event.Arrive c.args.from c.args.bytes.now)) _)

pub returns-in_err-send_all : goal.returns-in_err-send_all
returns-in_err-send_all g c =
    fails_as (stepping_pair c.args.self.now (event.Arrive c.args.from c.args.bytes.now)) _ c.in_err-send_all.field-0.0 _ _ c.from_residual-in_err-send_all.result c.from_residual-in_err-send_all.ensures.1
    (step_stops c.args.self.now (event.Arrive c.args.from c.args.bytes.now) c.in_ok-outcome.outcome c.as_slice.result.now c.in_err-send_all.field-0.0 _ _ c.in_ok-outcome.ensures.outcome c.as_slice.ensures c.in_err-send_all.ensures)

pub returns : goal.returns
returns g c = step_made c.args.self.now (event.Arrive c.args.from c.args.bytes.now) c.advance_arrival.new.self c.in_ok-outcome.outcome c.as_slice.result.now _ _ c.in_ok-outcome.ensures.node c.in_ok-outcome.ensures.outcome c.as_slice.ensures c.in_ok-send_all.ensures
