use Rattle.std.proofs.Common.{◌≡◌, sym, ap, ◌∙◌, true, false}
use Rattle.std.specs.Option.{option_map}
use Rattle.std.specs.Map.Iter.{deref_pair}
use Rattle.std.specs.Prelude.{Some, is_some, not, slice_get, []}
use Rattle.rdma_types.specs.Lists.{has_name, named}
use Rattle.rdma_types.specs.declared.answers.Refusal.TheVariants.{NoSuch, BadState}
use Rattle.protocol.specs.Refusals.{has_end, is_init}
use Rattle.protocol.specs.State.{end_at, no_end}
use Rattle.context_core.specs.Context.{end_of}
use Rattle.context_core.proofs.EndsByName.{end-found, end-absent, init-is}
use Rattle.context_core.proofs.FirstCause.{first-holds, first-passed, none-holds}
use Rattle.context_core.proofs.ends.unconnected.Goals as goal

pub returns-in_default-clause-refused : goal.returns-in_default-clause-refused
returns-in_default-clause-refused c = λ pool queues d e.
    let absent = end-absent pool queues c.args.ends.now.entries c.args.name (sym c.get_index_of.ensures.found ∙ ap is_some c.in_default.is) in
    sym (first-holds NoSuch (not (has_end d c.args.name)) _ (ap (λ es. not (has_name (λ x. x.name) c.args.name es)) e ∙ ap not absent))

pub returns-then-is_some-clause-refused : goal.returns-then-is_some-clause-refused
returns-then-is_some-clause-refused c = λ pool queues d e.
    let there : slice_get c.args.ends.now.entries c.in-Some.place ≡ Some (c.unwrap.result.0.now, c.unwrap.result.1.now) = sym c.get_index.ensures.entry ∙ ap (option_map deref_pair) c.unwrap.ensures in
    let found = end-found pool queues c.args.ends.now.entries c.args.name c.in-Some.place (c.unwrap.result.0.now, c.unwrap.result.1.now) c.get_index_of.ensures.unique (sym c.get_index_of.ensures.index ∙ c.in-Some.is) there in
    let at : end_at d c.args.name ≡ end_of pool queues (c.unwrap.result.0.now, c.unwrap.result.1.now) = ap (named (λ x. x.name) no_end c.args.name) e ∙ found.end in
    let init : not (is_init (end_at d c.args.name).link) ≡ true = ap (λ x. not (is_init x.link)) at ∙ (ap not (init-is pool c.unwrap.result.1.now.endpoint.link) ∙ ap (λ b. not (not b)) (sym c.if-is_some.ensures)) in
    sym (first-passed NoSuch (not (has_end d c.args.name)) _ (ap (λ es. not (has_name (λ x. x.name) c.args.name es)) e ∙ ap not found.has) ∙ first-holds BadState (not (is_init (end_at d c.args.name).link)) [] init)

pub returns-clause-refused : goal.returns-clause-refused
returns-clause-refused c = λ pool queues d e.
    let there : slice_get c.args.ends.now.entries c.in-Some.place ≡ Some (c.unwrap.result.0.now, c.unwrap.result.1.now) = sym c.get_index.ensures.entry ∙ ap (option_map deref_pair) c.unwrap.ensures in
    let found = end-found pool queues c.args.ends.now.entries c.args.name c.in-Some.place (c.unwrap.result.0.now, c.unwrap.result.1.now) c.get_index_of.ensures.unique (sym c.get_index_of.ensures.index ∙ c.in-Some.is) there in
    let at : end_at d c.args.name ≡ end_of pool queues (c.unwrap.result.0.now, c.unwrap.result.1.now) = ap (named (λ x. x.name) no_end c.args.name) e ∙ found.end in
    let init : not (is_init (end_at d c.args.name).link) ≡ false = ap (λ x. not (is_init x.link)) at ∙ (ap not (init-is pool c.unwrap.result.1.now.endpoint.link) ∙ ap (λ b. not (not b)) (sym c.if-is_some.ensures)) in
    sym (first-passed NoSuch (not (has_end d c.args.name)) _ (ap (λ es. not (has_name (λ x. x.name) c.args.name es)) e ∙ ap not found.has) ∙ (first-passed BadState (not (is_init (end_at d c.args.name).link)) [] init ∙ none-holds))
