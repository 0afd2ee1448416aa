use Rattle.std.proofs.Common.{◌∙◌, refl, ap}
use Rattle.node_rules.specs.Node.{Node}
use Rattle.node_rules.specs.Plan as plan
use Rattle.node_rules.specs.Plan.{Plan}
use Rattle.node_engine.specs.declared.faults.NodeFault.TheVariants as fault
use Rattle.node_rules.specs.Lines.{serves, served_text}
use Rattle.node_rules.specs.Serve.{serving, turns}
use Rattle.node_engine.proofs.Parts.{fails_as, fails_first, ran_out, second}
use Rattle.node_engine.proofs.OneTurn.{served}
use Rattle.node_engine.proofs.state.Node.serve_and_tell.Goals as goal

pub returns-in_err-serve : goal.returns-in_err-serve
returns-in_err-serve g c =
    fails_as (serves c.args.self.now c.args.turns) _ c.in_err-serve.field-0.0 _ _ c.from_residual.result c.from_residual.ensures.1
    (fails_first (turns c.args.turns (serving c.args.self.now)) (λ (n : Node) (more : Node → Plan). plan.Writes (served_text n.taken) (more n)) c.in_err-serve.field-0.0 _ _ c.in_err-serve.ensures)

pub returns-in_err-text : goal.returns-in_err-text
returns-in_err-text g c =
    fails_as (serves c.args.self.now c.args.turns) _ fault.OutOfMemory _ _ c.from_residual-in_err-text.result c.from_residual-in_err-text.ensures.1
    (ran_out (serves c.args.self.now c.args.turns) (λ more. plan.Writes (served_text c.serve.new.self.taken) (more c.serve.new.self)) _ _ (second (turns c.args.turns (serving c.args.self.now)) (λ (n : Node) (more : Node → Plan). plan.Writes (served_text n.taken) (more n)) c.serve.new.self _ _ c.in_ok-serve.ensures))

pub returns : goal.returns
returns g c = served c.args.self.now c.serve.new.self c.args.turns c.as_slice.result.now _ _ _ _ _ c.in_ok-serve.ensures (c.as_slice.ensures.value ∙ c.in_ok-text.ensures ∙ ap served_text c.taken_count.ensures) (λ u. refl) c.write.ensures
