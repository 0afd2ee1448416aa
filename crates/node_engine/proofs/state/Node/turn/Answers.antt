use Rattle.std.proofs.Common.{◌∙◌, ap}
use Rattle.node_rules.specs.Node.{Node}
use Rattle.node_rules.specs.Plan.{Plan}
use Rattle.node_engine.specs.declared.faults.NodeFault.TheVariants as fault
use Rattle.node_rules.specs.Serve.{taking, timing, turn}
use Rattle.node_engine.specs.Names.{names_of}
use Rattle.node_engine.proofs.Parts.{fails_as, fails_first, ran_out}
use Rattle.node_engine.proofs.OneTurn.{past_arrival, turn_sent, turn_timed, turn_took, turn_unsent}
use Rattle.node_engine.proofs.state.Node.turn.Goals as goal

pub returns-in_err-take : goal.returns-in_err-take
returns-in_err-take g c =
    fails_as (turn c.args.self.now) _ c.in_err-take.field-0.0 _ _ c.from_residual.result c.from_residual.ensures.1
    (fails_first (taking c.args.self.now) (λ (n : Node) (more : Node → Plan). past_arrival n more) c.in_err-take.field-0.0 _ _ c.in_err-take.ensures)

pub returns-in_err-list_ends : goal.returns-in_err-list_ends
returns-in_err-list_ends g c =
    fails_as (turn c.args.self.now) _ fault.OutOfMemory _ _ c.from_residual-in_err-list_ends.result c.from_residual-in_err-list_ends.ensures.1
    (ran_out (turn c.args.self.now) (past_arrival c.take.new.self) _ _ (turn_took c.args.self.now c.take.new.self _ _ c.in_ok-take.ensures))

pub returns-in_err-transmit_all : goal.returns-in_err-transmit_all
returns-in_err-transmit_all g c =
    fails_as (turn c.args.self.now) _ c.in_err-transmit_all.field-0.0 _ _ c.from_residual-in_err-transmit_all.result c.from_residual-in_err-transmit_all.ensures.1
    (turn_unsent c.args.self.now c.take.new.self (names_of c.as_slice.result.now) c.in_err-transmit_all.field-0.0 _ _ _ (turn_took c.args.self.now c.take.new.self _ _ c.in_ok-take.ensures) (ap names_of c.as_slice.ensures.value ∙ c.in_ok-list_ends.ensures) c.in_err-transmit_all.ensures)

pub returns-in_err-list_ends-2 : goal.returns-in_err-list_ends-2
returns-in_err-list_ends-2 g c =
    fails_as (turn c.args.self.now) _ fault.OutOfMemory _ _ c.from_residual-in_err-list_ends-2.result c.from_residual-in_err-list_ends-2.ensures.1
    (ran_out (turn c.args.self.now) (timing c.transmit_all.new.self) _ _ (turn_sent c.args.self.now c.take.new.self c.transmit_all.new.self (names_of c.as_slice.result.now) _ _ _ (turn_took c.args.self.now c.take.new.self _ _ c.in_ok-take.ensures) (ap names_of c.as_slice.ensures.value ∙ c.in_ok-list_ends.ensures) c.in_ok-transmit_all.ensures))

pub returns : goal.returns
returns g c = turn_timed c.args.self.now c.transmit_all.new.self (names_of c.as_slice-2.result.now) _ _ _ _ _ (turn_sent c.args.self.now c.take.new.self c.transmit_all.new.self (names_of c.as_slice.result.now) _ _ _ (turn_took c.args.self.now c.take.new.self _ _ c.in_ok-take.ensures) (ap names_of c.as_slice.ensures.value ∙ c.in_ok-list_ends.ensures) c.in_ok-transmit_all.ensures) (ap names_of c.as_slice-2.ensures.value ∙ c.in_ok-list_ends-2.ensures) c.time.ensures
