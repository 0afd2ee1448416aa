use Rattle.std.proofs.Common.{◌∙◌, ap}
use Rattle.command_line.specs.Sentences.{shown, wanted}
use Rattle.command_line.proofs.error_sentences.usage.unfit.Goals as goal

pub returns : goal.returns
returns c = rw (c.as_bytes-digits.ensures.value ∙ c.format.ensures.text, c.title-title.ensures, c.as_slice.ensures.value ∙ (c.in_ok-word.ensures ∙ ap shown c.word_at.ensures), c.as_slice-2.ensures.value ∙ (c.in_ok-wanted.ensures ∙ ap wanted c.kind.ensures)) at c.joined.ensures
