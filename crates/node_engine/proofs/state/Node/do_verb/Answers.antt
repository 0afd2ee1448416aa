use Rattle.std.proofs.Common.{Some, None, ap}
use Rattle.node_rules.specs.Node.{Node}
use Rattle.node_rules.specs.Plan.{Plan}
use Rattle.node_rules.proofs.Joining.{comes_nowhere}
use Rattle.node_rules.specs.Lines.{stepped_if, verb_event}
use Rattle.node_engine.proofs.Parts.{does_as, made_as}
use Rattle.node_engine.proofs.state.Node.do_verb.Goals as goal

pub returns-in-Some : goal.returns-in-Some
returns-in-Some g c = does_as (stepped_if c.args.self.now (Some c.in-Some.event)) (stepped_if c.args.self.now (verb_event c.args.verb)) _ _ _ _ (ap (stepped_if c.args.self.now) c.in-Some.ensures.event) c.step_and_answer.ensures

pub returns-in-None : goal.returns-in-None
returns-in-None g c = made_as (stepped_if c.args.self.now None) (stepped_if c.args.self.now (verb_event c.args.verb)) _ _ _ (ap (stepped_if c.args.self.now) c.in-None.ensures.event) (comes_nowhere (λ (more : Node → Plan). more c.args.self.now) _)
