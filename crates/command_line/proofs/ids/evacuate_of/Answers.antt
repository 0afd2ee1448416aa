use Rattle.std.proofs.Common.{rules, ◌≡◌, ◌∙◌, map, ap, sym, true, subst, Some, not}
use Rattle.std.specs.Prelude.{nat_le, length, ◌&&◌}
use Rattle.std.specs.String.{string_bytes}
use Rattle.command_line.specs.Commands.{known_if}
use Rattle.command_line.specs.Ids.{told_ids}
use Rattle.command_line.proofs.IdLists.{apart, no_ids, taken_apart}
use Rattle.command_line.proofs.ids.evacuate_of.Goals as goal

pub returns-in_err-ids-clause-value : goal.returns-in_err-ids-clause-value
returns-in_err-ids-clause-value c = ap known_if c.from_residual.ensures ∙ sym (no_ids (map string_bytes c.args.words.now) (sym c.ids_of.ensures ∙ ap told_ids c.in_err-ids.was))

pub returns-clause-value : goal.returns-clause-value
returns-clause-value c =
    let is : c.are_apart.result ≡ true = search (rules, c.if-not-are_apart.false) in
    let told : apart c.in_ok-ids.ids.items ≡ true = subst (λ xs. apart xs ≡ true) c.as_slice.ensures.value (sym c.are_apart.ensures ∙ is) in
    taken_apart (map string_bytes c.args.words.now) c.in_ok-ids.ids.items c.remove-from.new.self.items c.remove-from.result (sym c.in_ok-ids.ensures) told c.remove-from.ensures.value c.remove-from.ensures.items
