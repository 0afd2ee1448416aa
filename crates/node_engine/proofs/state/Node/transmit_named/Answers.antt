use Rattle.std.proofs.Common.{◌∙◌, [], ◌∷◌, ap}
use Rattle.node_rules.proofs.Joining.{comes_on}
use Rattle.protocol.specs.declared.events.Event.TheVariants as event
use Rattle.node_engine.specs.declared.faults.NodeFault.TheVariants as fault
use Rattle.node_rules.specs.Serve.{is_active, marking, transmitting_one}
use Rattle.node_rules.specs.Node.{number_at}
use Rattle.node_engine.proofs.Parts.{fails_as, ran_out}
use Rattle.node_engine.proofs.Steps.{gives, step_comes, step_fails}
use Rattle.node_engine.proofs.OneTurn.{after_sending}
use Rattle.node_engine.proofs.state.Node.transmit_named.Goals as goal

pub returns-in_err-outcome : goal.returns-in_err-outcome
returns-in_err-outcome g c =
    fails_as (transmitting_one c.args.end.now c.args.self.now) _ c.in_err-outcome.field-0.0 _ _ c.from_residual.result c.from_residual.ensures.1
    (step_fails c.args.self.now (event.Transmit c.args.end.now) (after_sending c.args.self.now c.args.end.now) c.in_err-outcome.field-0.0 _ _ c.in_err-outcome.ensures.stepped)

pub returns-in_err-mark : goal.returns-in_err-mark
returns-in_err-mark g c =
    fails_as (transmitting_one c.args.end.now c.args.self.now) _ fault.OutOfMemory _ _ c.from_residual-in_err-mark.result c.from_residual-in_err-mark.ensures.1
    (ran_out (transmitting_one c.args.end.now c.args.self.now) (after_sending c.args.self.now c.args.end.now c.step.new.self c.in_ok-outcome.outcome) _ _ (step_comes c.args.self.now (event.Transmit c.args.end.now) (after_sending c.args.self.now c.args.end.now) c.step.new.self c.in_ok-outcome.outcome _ _ c.in_ok-outcome.ensures.stepped))

pub returns : goal.returns
returns g c =
    comes_on (transmitting_one c.args.end.now c.args.self.now) (after_sending c.args.self.now c.args.end.now c.step.new.self c.in_ok-outcome.outcome) (λ more. more c.give_back.new.self) _ _ _
    (step_comes c.args.self.now (event.Transmit c.args.end.now) (after_sending c.args.self.now c.args.end.now) c.step.new.self c.in_ok-outcome.outcome _ _ c.in_ok-outcome.ensures.stepped)
    (gives (marking (is_active c.in_ok-outcome.outcome) (number_at c.args.self.now.device c.args.end.now ∷ []) c.step.new.self) c.give_back.new.self _ (c.give_back.ensures ∙ c.in_ok-mark.ensures ∙ ap (λ n. marking (is_active c.in_ok-outcome.outcome) (n ∷ []) c.step.new.self) c.number_of-number.ensures))
