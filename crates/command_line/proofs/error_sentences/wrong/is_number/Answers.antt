use Rattle.std.proofs.Common.{◌∙◌, subst}
use Rattle.script_lang.specs.Fields.{a_number}
use Rattle.script_lang.specs.Words.{Gives}
use Rattle.command_line.proofs.Alone.{a_number_alone}
use Rattle.command_line.proofs.error_sentences.wrong.is_number.Goals as goal

pub returns : goal.returns
returns c = c.is_ok.ensures.value ∙ a_number_alone c.args.low c.args.high c.args.text.now c.number.new.self c.number.result c.requires (subst (λ i. Gives c.number.result c.number.new.self (a_number c.args.low c.args.high i)) c.new.ensures c.number.ensures.value)
