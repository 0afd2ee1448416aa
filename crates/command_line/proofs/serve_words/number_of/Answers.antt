use Rattle.std.proofs.Common.{◌≡◌, ◌∙◌, false, ap, subst, sym}
use Rattle.std.specs.List.{list_any}
use Rattle.script_lang.specs.Fields.{a_number}
use Rattle.script_lang.specs.Texts.{number_in}
use Rattle.script_lang.specs.Words.{Gives, is_space}
use Rattle.command_line.proofs.Fields.{number_read, plain_is}
use Rattle.command_line.proofs.serve_words.number_of.Goals as goal

pub returns-clause-value : goal.returns-clause-value
returns-clause-value c =
    let plain : list_any is_space c.as_bytes-text.result.now ≡ false = sym c.has_space.ensures ∙ c.if-has_space.false in
    let read = number_read c.args.low c.args.high c.as_bytes-text.result.now c.number.new.self c.number.result plain (subst (λ i. Gives c.number.result c.number.new.self (a_number c.args.low c.args.high i)) c.new.ensures c.number.ensures.value) in
    c.ok.ensures.value ∙ (read ∙ (ap (number_in c.args.low c.args.high) c.as_bytes-text.ensures.value ∙ sym (plain_is (number_in c.args.low c.args.high) c.args.word.now (subst (λ bs. list_any is_space bs ≡ false) c.as_bytes-text.ensures.value plain))))
