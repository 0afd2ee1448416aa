use Rattle.std.proofs.Common.{◌≡◌, sym, ap, ◌∙◌, Some, None}
use Rattle.std.specs.Prelude.{slice_set}
use Rattle.std.specs.List.{position}
use Rattle.mailbox_rules.specs.declared.letters.Arrival.{Arrival}
use Rattle.mailbox.proofs.Filling.{filled_none, filled_some, lacks_body}
use Rattle.mailbox.proofs.copying.fill.Goals as goal

pub returns-in-Some : goal.returns-in-Some
returns-in-Some c =
    let xs = c.args.arrived.now.items in
    let is : position lacks_body xs ≡ Some c.in-Some.k = ap (λ ys. position lacks_body ys) (sym c.as_slice.ensures.value) ∙ (sym c.first_lacking.ensures ∙ c.in-Some.is) in
    ap (λ (a : Arrival). slice_set xs c.in-Some.k (record { tag = a.tag; body = Some c.args.body })) c.index_mut.ensures.value
    ∙ sym (filled_some c.args.body xs c.in-Some.k c.index_mut.result.now is)

pub returns-in_default : goal.returns-in_default
returns-in_default c =
    let xs = c.args.arrived.now.items in
    let is : position lacks_body xs ≡ None = ap (λ ys. position lacks_body ys) (sym c.as_slice.ensures.value) ∙ (sym c.first_lacking.ensures ∙ c.in_default.is) in
    sym (filled_none c.args.body xs is)
