use Rattle.std.proofs.Common.{sym}
use Rattle.node_rules.specs.Node.{Node}
use Rattle.node_rules.specs.Plan.{Plan}
use Rattle.node_rules.proofs.Joining.{comes_nowhere}
use Rattle.protocol.specs.declared.events.Event.TheVariants as event
use Rattle.node_rules.specs.Node.{stepping}
use Rattle.node_rules.specs.Serve.{waiting_out}
use Rattle.node_engine.proofs.Parts.{does_as, made_as}
use Rattle.node_engine.proofs.OneTurn.{rnr_passes, rnr_waits}
use Rattle.node_engine.proofs.state.Node.wait_out.Goals as goal

pub returns-then-is_rnr : goal.returns-then-is_rnr
returns-then-is_rnr g c = does_as (λ more. stepping c.args.self.now (event.RnrOver c.args.end.now) (λ n x. more n)) (waiting_out c.args.answer.now c.args.end.now c.args.self.now) _ _ _ _ (sym (rnr_waits c.args.answer.now c.args.end.now c.args.self.now (sym c.if-is_rnr.ensures))) c.end_wait.ensures

pub returns-else-is_rnr : goal.returns-else-is_rnr
returns-else-is_rnr g c = made_as (λ more. more c.args.self.now) (waiting_out c.args.answer.now c.args.end.now c.args.self.now) _ _ _ (sym (rnr_passes c.args.answer.now c.args.end.now c.args.self.now (sym c.if-is_rnr.ensures))) (comes_nowhere (λ (more : Node → Plan). more c.args.self.now) _)
