use Rattle.std.proofs.Common.{◌∙◌, refl, ap}
use Rattle.node_engine.specs.declared.faults.NodeFault.TheVariants as fault
use Rattle.node_rules.specs.Lines.{answering, counting}
use Rattle.script_lang.specs.Printed.{printed}
use Rattle.node_engine.proofs.Parts.{fails_as, ran_out_at_once}
use Rattle.node_engine.proofs.OneTurn.{text_written}
use Rattle.node_engine.proofs.state.Node.answer.Goals as goal

pub returns-in_err-text : goal.returns-in_err-text
returns-in_err-text g c =
    fails_as (answering c.args.answer c.args.self.now) _ fault.OutOfMemory _ _ c.from_residual.result c.from_residual.ensures.1
    (ran_out_at_once (answering c.args.answer c.args.self.now) _)

pub returns : goal.returns
returns g c = text_written c.args.self.now c.args.self.now c.as_slice.result.now (printed (counting c.args.self.now.sent c.args.answer)) _ _ _ _ (c.as_slice.ensures.value ∙ c.in_ok-text.ensures ∙ ap (λ n. printed (counting n c.args.answer)) c.sent_count.ensures) (λ u. refl) c.write.ensures
