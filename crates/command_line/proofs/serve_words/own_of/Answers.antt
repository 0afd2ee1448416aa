use Rattle.std.proofs.Common.{◌≡◌, ◌∙◌, false, ap, subst, sym}
use Rattle.std.specs.List.{list_any}
use Rattle.script_lang.specs.Fields.{an_address}
use Rattle.script_lang.specs.Texts.{address_of}
use Rattle.script_lang.specs.Words.{Gives, is_space}
use Rattle.command_line.proofs.Fields.{address_read, plain_is}
use Rattle.command_line.proofs.serve_words.own_of.Goals as goal

pub returns : goal.returns
returns c =
    let plain : list_any is_space c.as_bytes-text.result.now ≡ false = sym c.has_space.ensures ∙ c.if-has_space.false in
    let read = address_read c.as_bytes-text.result.now c.address.new.self c.address.result plain (subst (λ i. Gives c.address.result c.address.new.self (an_address i)) c.new.ensures c.address.ensures) in
    c.ok.ensures.value ∙ (read ∙ (ap address_of c.as_bytes-text.ensures.value ∙ sym (plain_is address_of c.args.word.now (subst (λ bs. list_any is_space bs ≡ false) c.as_bytes-text.ensures.value plain))))
