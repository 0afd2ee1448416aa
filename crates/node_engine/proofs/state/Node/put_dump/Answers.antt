use Rattle.std.proofs.Common.{◌∙◌, Some}
use Rattle.node_engine.specs.declared.faults.NodeFault.TheVariants as fault
use Rattle.node_rules.specs.Lines.{answering, storing}
use Rattle.node_engine.proofs.Parts.{does_on, fails_as, ran_out_at_once}
use Rattle.node_engine.proofs.OneTurn.{dump_not_put, dump_put}
use Rattle.node_engine.proofs.state.Node.put_dump.Goals as goal

pub returns-in_err-dump : goal.returns-in_err-dump
returns-in_err-dump g c =
    fails_as (storing c.args.file (Some c.args.image.now) c.args.answer c.args.self.now) _ fault.OutOfMemory _ _ c.from_residual.result c.from_residual.ensures.1
    (ran_out_at_once (storing c.args.file (Some c.args.image.now) c.args.answer c.args.self.now) _)

pub returns-in_err-put : goal.returns-in_err-put
returns-in_err-put g c =
    fails_as (storing c.args.file (Some c.args.image.now) c.args.answer c.args.self.now) _ c.in_err-put.field-0.0 _ _ c.from_residual-in_err-put.result c.from_residual-in_err-put.ensures.1
    (dump_not_put c.args.file c.args.image.now c.args.answer c.args.self.now c.as_slice.result.now c.in_err-put.field-0.0 _ _ (c.as_slice.ensures.value ∙ c.in_ok-dump.ensures.bytes) c.in_err-put.ensures)

pub returns : goal.returns
returns g c = does_on (storing c.args.file (Some c.args.image.now) c.args.answer c.args.self.now) (answering c.args.answer c.args.self.now) _ _ _ _ _ (dump_put c.args.file c.args.image.now c.args.answer c.args.self.now c.as_slice.result.now _ _ (c.as_slice.ensures.value ∙ c.in_ok-dump.ensures.bytes) c.in_ok-put.ensures) c.answer.ensures
