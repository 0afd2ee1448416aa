use Rattle.std.proofs.Common.{◌∙◌, Some}
use Rattle.node_rules.proofs.Joining.{comes_on}
use Rattle.protocol.specs.declared.events.Event.TheVariants as event
use Rattle.node_engine.specs.declared.faults.NodeFault.TheVariants as fault
use Rattle.node_rules.specs.Serve.{arrived, arriving}
use Rattle.host_ports.specs.Links.{Addressed}
use Rattle.node_engine.proofs.Parts.{fails_as, ran_out}
use Rattle.node_engine.proofs.Steps.{gives, step_comes, step_fails}
use Rattle.node_engine.proofs.OneTurn.{after_arrival, arrival_marked}
use Rattle.node_engine.proofs.state.Node.arrive.Goals as goal

pub returns-in_err-outcome : goal.returns-in_err-outcome
returns-in_err-outcome g c =
    let d : Addressed = (c.args.from, c.args.bytes.now) in
    fails_as (arriving c.args.self.now (Some d)) _ c.in_err-outcome.field-0.0 _ _ c.from_residual.result c.from_residual.ensures.1
    (step_fails c.args.self.now (event.Arrive c.args.from c.args.bytes.now) (after_arrival c.args.self.now d) c.in_err-outcome.field-0.0 _ _ c.in_err-outcome.ensures)

pub returns-in_err-mark : goal.returns-in_err-mark
returns-in_err-mark g c =
    let d : Addressed = (c.args.from, c.args.bytes.now) in
    fails_as (arriving c.args.self.now (Some d)) _ fault.OutOfMemory _ _ c.from_residual-in_err-mark.result c.from_residual-in_err-mark.ensures.1
    (ran_out (arriving c.args.self.now (Some d)) (after_arrival c.args.self.now d c.step_arrival.new.self c.in_ok-outcome.outcome) _ _ (step_comes c.args.self.now (event.Arrive c.args.from c.args.bytes.now) (after_arrival c.args.self.now d) c.step_arrival.new.self c.in_ok-outcome.outcome _ _ c.in_ok-outcome.ensures))

pub returns : goal.returns
returns g c =
    let d : Addressed = (c.args.from, c.args.bytes.now) in
    comes_on (arriving c.args.self.now (Some d)) (after_arrival c.args.self.now d c.step_arrival.new.self c.in_ok-outcome.outcome) (λ more. more c.give_back.new.self) _ _ _
    (step_comes c.args.self.now (event.Arrive c.args.from c.args.bytes.now) (after_arrival c.args.self.now d) c.step_arrival.new.self c.in_ok-outcome.outcome _ _ c.in_ok-outcome.ensures)
    (gives (arrived c.args.self.now d c.step_arrival.new.self c.in_ok-outcome.outcome) c.give_back.new.self _ (c.give_back.ensures ∙ arrival_marked c.args.self.now c.step_arrival.new.self c.count_taken.new.self c.mark.new.self d c.in_ok-outcome.outcome _ c.receiver-number.ensures c.count_taken.ensures c.in_ok-mark.ensures))
