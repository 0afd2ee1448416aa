use Rattle.std.proofs.Common.{Some, None, refl}
use Rattle.node_rules.specs.Plan as plan
use Rattle.node_rules.specs.Plan.{Plan}
use Rattle.node_engine.proofs.Parts.{fails_as, fails_first, then}
use Rattle.node_engine.proofs.OneTurn.{after_remove, not_there}
use Rattle.rdma_types.specs.declared.answers.Answer.TheVariants as answer
use Rattle.node_rules.specs.Lines.{clearing}
use Rattle.node_engine.proofs.state.Node.remove.Goals as goal

pub returns-in_err-found : goal.returns-in_err-found
returns-in_err-found g c =
    fails_as (clearing c.args.file answer.Done c.args.self.now) _ c.in_err-found.field-0.0 _ _ c.from_residual.result c.from_residual.ensures.1
    (fails_first (plan.Removes c.args.file) (after_remove c.args.file c.args.self.now) c.in_err-found.field-0.0 _ _ c.in_err-found.ensures)

pub returns-in-Some : goal.returns-in-Some
returns-in-Some g c = let made = rw c.in-Some.is at c.in_ok-found.ensures in then (plan.Removes c.args.file) (after_remove c.args.file c.args.self.now) (Some c.in-Some._bytes.items) _ _ _ _ _ made c.answer.ensures

pub returns-in-None : goal.returns-in-None
returns-in-None g c = let made = rw c.in-None.is at c.in_ok-found.ensures in not_there (plan.Removes c.args.file) (after_remove c.args.file c.args.self.now) c.args.file None _ _ refl (λ more. refl) made
