use Rattle.std.proofs.Common.{◌∙◌, subst}
use Rattle.script_lang.specs.Fields.{an_address}
use Rattle.script_lang.specs.Words.{Gives}
use Rattle.command_line.proofs.Alone.{an_address_alone}
use Rattle.command_line.proofs.error_sentences.wrong.is_address.Goals as goal

pub returns : goal.returns
returns c = c.is_ok.ensures.value ∙ an_address_alone c.args.text.now c.address.new.self c.address.result c.requires (subst (λ i. Gives c.address.result c.address.new.self (an_address i)) c.new.ensures c.address.ensures)
