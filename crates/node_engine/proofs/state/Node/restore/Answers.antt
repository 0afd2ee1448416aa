use Rattle.std.proofs.Common.{Some, None, refl, ap}
use Rattle.node_rules.specs.Plan as plan
use Rattle.node_rules.specs.Plan.{Plan}
use Rattle.node_engine.proofs.Parts.{does_as, fails_as, fails_first, then}
use Rattle.node_engine.proofs.OneTurn.{after_look, not_there}
use Rattle.node_rules.specs.Lines.{restoring, restoring_bytes}
use Rattle.node_engine.proofs.state.Node.restore.Goals as goal

pub returns-in_err-found : goal.returns-in_err-found
returns-in_err-found g c =
    fails_as (restoring c.args.self.now c.args.file) _ c.in_err-found.field-0.0 _ _ c.from_residual.result c.from_residual.ensures.1
    (fails_first (plan.Looks c.args.file) (after_look c.args.self.now c.args.file) c.in_err-found.field-0.0 _ _ c.in_err-found.ensures)

pub returns-in-Some : goal.returns-in-Some
returns-in-Some g c = let made = rw c.in-Some.is at c.in_ok-found.ensures in then (plan.Looks c.args.file) (after_look c.args.self.now c.args.file) (Some c.in-Some.bytes.items) _ _ _ _ _ made (does_as (restoring_bytes c.args.self.now c.args.file (Some c.as_slice.result.now)) (restoring_bytes c.args.self.now c.args.file (Some c.in-Some.bytes.items)) _ _ _ _ (ap (λ bs. restoring_bytes c.args.self.now c.args.file (Some bs)) c.as_slice.ensures.value) c.restore_bytes.ensures)

pub returns-in-None : goal.returns-in-None
returns-in-None g c = let made = rw c.in-None.is at c.in_ok-found.ensures in not_there (plan.Looks c.args.file) (after_look c.args.self.now c.args.file) c.args.file None _ _ refl (λ more. refl) made
