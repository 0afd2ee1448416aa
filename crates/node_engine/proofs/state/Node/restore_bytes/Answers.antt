use Rattle.std.proofs.Common.{[], Some, length, sym, ap}
use Rattle.protocol.specs.declared.events.Event.TheVariants as event
use Rattle.protocol.specs.declared.images.ContextImage.{ContextImage}
use Rattle.protocol.specs.Dumps.{Good, Reading}
use Rattle.node_rules.specs.Lines.{restoring_bytes, restoring_image}
use Rattle.node_engine.specs.Faults.{fault_of_dump}
use Rattle.node_engine.proofs.Parts.{does_as, fails_as, fails_if}
use Rattle.node_engine.proofs.Steps.{step_fails, step_then}
use Rattle.node_engine.proofs.OneTurn.{after_restore, dump_fails}
use Rattle.node_engine.proofs.state.Node.restore_bytes.Goals as goal

pub returns-in_err-image : goal.returns-in_err-image
returns-in_err-image g c =
    fails_as (restoring_bytes c.args.self.now c.args.file (Some c.args.bytes.now)) _ (fault_of_dump c.in_err-image.field-0.0) _ _ c.from_residual.result c.from_residual.ensures.1
    (dump_fails c.args.self.now c.args.file c.args.bytes.now c.in_err-image.field-0.0 _ c.in_err-image.ensures.fault)

pub returns-in_err-outcome : goal.returns-in_err-outcome
returns-in_err-outcome g c =
    fails_as (restoring_bytes c.args.self.now c.args.file (Some c.args.bytes.now)) _ c.in_err-outcome.field-0.0 _ _ c.from_residual-in_err-outcome.result c.from_residual-in_err-outcome.ensures.1
    (fails_if (restoring_image c.args.self.now c.args.file (Good c.in_ok-image.image (length c.args.bytes.now) [])) (restoring_bytes c.args.self.now c.args.file (Some c.args.bytes.now)) c.in_err-outcome.field-0.0 _ _ (ap (λ (read : Reading ContextImage). restoring_image c.args.self.now c.args.file read) (sym c.in_ok-image.ensures.image)) (step_fails c.args.self.now (event.Restore c.in_ok-image.image) (after_restore c.args.file) c.in_err-outcome.field-0.0 _ _ c.in_err-outcome.ensures))

pub returns : goal.returns
returns g c = does_as (restoring_image c.args.self.now c.args.file (Good c.in_ok-image.image (length c.args.bytes.now) [])) (restoring_bytes c.args.self.now c.args.file (Some c.args.bytes.now)) _ _ _ _ (ap (λ (read : Reading ContextImage). restoring_image c.args.self.now c.args.file read) (sym c.in_ok-image.ensures.image)) (step_then c.args.self.now (event.Restore c.in_ok-image.image) (after_restore c.args.file) c.step_restore.new.self c.in_ok-outcome.outcome _ _ _ _ _ c.in_ok-outcome.ensures c.clear.ensures)
