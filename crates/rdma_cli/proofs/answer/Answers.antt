use Rattle.std.proofs.Common.{◌∙◌, ap, refl, subst, sym}
use Rattle.std.specs.Prelude.{option_copied}
use Rattle.dump_writer.specs.Text.{text_of}
use Rattle.tools.specs.Endings.{IsWritten, done}
use Rattle.rdma_cli.proofs.Answering.{text_told, words_done}
use Rattle.rdma_cli.proofs.answer.Goals as goal

pub returns-in-Some : goal.returns-in-Some
returns-in-Some g c =
    text_told text_of _ _ _ _ _ c.end_with.result c.in-Some.text.now (sym c.about.ensures ∙ ap option_copied c.in-Some.is)
    (subst (λ x. IsWritten (g.K.Sink.held c.args.ports.now.output) (g.K.Sink.held c.end_with.new.output) (g.K.Sink.faults c.args.ports.now.output) (g.K.Sink.faults c.end_with.new.output) x done c.end_with.result) c.as_bytes.ensures.value c.end_with.ensures) refl refl

pub returns : goal.returns
returns g c = words_done text_of _ _ _ _ _ c.run_words-status.result (sym c.about.ensures ∙ ap option_copied c.in_default.is) c.run_words-status.ensures
