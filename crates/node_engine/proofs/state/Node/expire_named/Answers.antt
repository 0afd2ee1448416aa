use Rattle.std.proofs.Common.{ap}
use Rattle.node_rules.specs.Node.{Node}
use Rattle.node_rules.specs.Plan.{Plan}
use Rattle.node_rules.proofs.Joining.{comes_nowhere}
use Rattle.std.proofs.Common.{Bool}
use Rattle.node_rules.specs.Serve.{expiring_if, expiring_one, is_due}
use Rattle.node_engine.proofs.Parts.{does_as, made_as}
use Rattle.node_engine.proofs.state.Node.expire_named.Goals as goal

pub returns-then-is_due : goal.returns-then-is_due
returns-then-is_due g c = does_as (expiring_one c.args.end.now c.args.self.now) (expiring_if (is_due c.args.self.now c.args.now c.args.end.now) c.args.end.now c.args.self.now) _ _ _ _ (ap (λ (b : Bool). expiring_if b c.args.end.now c.args.self.now) c.if-is_due.ensures) c.expire_now.ensures

pub returns-else-is_due : goal.returns-else-is_due
returns-else-is_due g c = made_as (λ more. more c.args.self.now) (expiring_if (is_due c.args.self.now c.args.now c.args.end.now) c.args.end.now c.args.self.now) _ _ _ (ap (λ (b : Bool). expiring_if b c.args.end.now c.args.self.now) c.if-is_due.ensures) (comes_nowhere (λ (more : Node → Plan). more c.args.self.now) _)
