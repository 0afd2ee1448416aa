-- The number of one end is forgotten, if it leaves nothing.
use Rattle.std.proofs.Common.{◌≡◌, ◌∙◌, sym, ap, None}
use Rattle.std.specs.Prelude.{◌==◌, if◌then◌else◌, nat_eq}
use Rattle.indexmap.specs.IndexMap.{get}
use Rattle.context_core.specs.Context.{context_in}
use Rattle.device_core.specs.Index.{without_numbers}
use Rattle.device_core.proofs.Leavings.{forgets-nothing, forgets-one, gone-none, gone-one, not-there, told-number}
use Rattle.device_core.proofs.leaving.drop_end.Goals as goal

pub returns-in_default : goal.returns-in_default
returns-in_default c pool e at k = absurd (not-there (context_in pool c.args.name c.args.state.now) _ c.end_at.result e (c.end_at.ensures pool) c.in_default.is at)

pub returns-then-is_none : goal.returns-then-is_none
returns-then-is_none c pool e at k =
    let number : c.in-Some.end.number ≡ e.number = told-number (context_in pool c.args.name c.args.state.now) _ c.end_at.result c.in-Some.end e (c.end_at.ensures pool) c.in-Some.is at in
    let one = gone-one e c.entry_left.result (c.entry_left.ensures pool e at) c.if-is_none.ensures in
    c.drop_location.ensures k ∙ (ap (λ m. if m == k then None else get nat_eq c.args.index.now k) number ∙ (sym (forgets-one e.number k (get nat_eq c.args.index.now k)) ∙ ap (λ ns. without_numbers ns k (get nat_eq c.args.index.now k)) (sym one)))

pub returns-else-is_none : goal.returns-else-is_none
returns-else-is_none c pool e at k =
    let none = gone-none e c.entry_left.result (c.entry_left.ensures pool e at) c.if-is_none.ensures in
    sym (forgets-nothing k (get nat_eq c.args.index.now k)) ∙ ap (λ ns. without_numbers ns k (get nat_eq c.args.index.now k)) (sym none)
