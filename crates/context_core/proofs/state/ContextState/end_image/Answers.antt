use Rattle.std.proofs.Common.{◌≡◌, ◌≤◌, ◌∙◌, ap, sym, subst, length, arith}
use Rattle.std.specs.Prelude.{Some, slice_get}
use Rattle.std.specs.Option.{option_map}
use Rattle.std.specs.Map.Iter.{deref_pair}
use Rattle.endpoint_core.specs.Sound.{IsEnd}
use Rattle.context_core.specs.Context.{HasQueues, IsContext}
use Rattle.context_core.specs.Fits.{IsNarrow, IsNarrowEnd}
use Rattle.context_core.proofs.ListPrefixes.{at_place}
use Rattle.context_core.proofs.ImageParts.{end-at-is, payloads-held}
use Rattle.context_core.proofs.state.ContextState.end_image.Goals as goal

pub position_of-requires : goal.position_of-requires
position_of-requires c = (subst IsNarrow (sym c.self.view_is) c.requires.narrow).domains

pub overflow_cast-result : goal.overflow_cast-result
overflow_cast-result c =
    let there : slice_get c.self.inside.ends.entries c.args.place ≡ Some (c.unwrap.result.0.now, c.unwrap.result.1.now) = sym c.get_index.ensures.entry ∙ ap (option_map deref_pair) c.unwrap.ensures in
    let is = (subst (IsContext c.args.pool.now) (sym c.self.view_is) c.requires.is).is in
    let has : HasQueues c.self.inside.queues.entries (c.unwrap.result.0.now, c.unwrap.result.1.now) = at_place (HasQueues c.self.inside.queues.entries) c.self.inside.ends.entries c.args.place (c.unwrap.result.0.now, c.unwrap.result.1.now) there is.placed in
    let few : length c.self.inside.queues.entries ≤ 64 = is.few_queues in
    omega (arith, has.0, few)

pub overflow_cast-result-2 : goal.overflow_cast-result-2
overflow_cast-result-2 c =
    let there : slice_get c.self.inside.ends.entries c.args.place ≡ Some (c.unwrap.result.0.now, c.unwrap.result.1.now) = sym c.get_index.ensures.entry ∙ ap (option_map deref_pair) c.unwrap.ensures in
    let is = (subst (IsContext c.args.pool.now) (sym c.self.view_is) c.requires.is).is in
    let has : HasQueues c.self.inside.queues.entries (c.unwrap.result.0.now, c.unwrap.result.1.now) = at_place (HasQueues c.self.inside.queues.entries) c.self.inside.ends.entries c.args.place (c.unwrap.result.0.now, c.unwrap.result.1.now) there is.placed in
    let few : length c.self.inside.queues.entries ≤ 64 = is.few_queues in
    omega (arith, has.1, few)

pub overflow_cast-result-3 : goal.overflow_cast-result-3
overflow_cast-result-3 c =
    let there : slice_get c.self.inside.ends.entries c.args.place ≡ Some (c.unwrap.result.0.now, c.unwrap.result.1.now) = sym c.get_index.ensures.entry ∙ ap (option_map deref_pair) c.unwrap.ensures in
    let narrow : IsNarrowEnd (c.unwrap.result.0.now, c.unwrap.result.1.now) = at_place IsNarrowEnd c.self.inside.ends.entries c.args.place (c.unwrap.result.0.now, c.unwrap.result.1.now) there (subst IsNarrow (sym c.self.view_is) c.requires.narrow).ends in
    omega (arith, narrow.send)

pub overflow_cast-result-4 : goal.overflow_cast-result-4
overflow_cast-result-4 c =
    let there : slice_get c.self.inside.ends.entries c.args.place ≡ Some (c.unwrap.result.0.now, c.unwrap.result.1.now) = sym c.get_index.ensures.entry ∙ ap (option_map deref_pair) c.unwrap.ensures in
    let narrow : IsNarrowEnd (c.unwrap.result.0.now, c.unwrap.result.1.now) = at_place IsNarrowEnd c.self.inside.ends.entries c.args.place (c.unwrap.result.0.now, c.unwrap.result.1.now) there (subst IsNarrow (sym c.self.view_is) c.requires.narrow).ends in
    omega (arith, narrow.recv)

pub linked_image-requires : goal.linked_image-requires
linked_image-requires c = (subst IsNarrow (sym c.self.view_is) c.requires.narrow).regions

pub untold_images-requires : goal.untold_images-requires
untold_images-requires c =
    let there : slice_get c.self.inside.ends.entries c.args.place ≡ Some (c.unwrap.result.0.now, c.unwrap.result.1.now) = sym c.get_index.ensures.entry ∙ ap (option_map deref_pair) c.unwrap.ensures in
    let is = (subst (IsContext c.args.pool.now) (sym c.self.view_is) c.requires.is).is in
    let end : IsEnd c.args.pool.now c.self.inside.regions c.unwrap.result.1.now.endpoint = at_place (λ e. IsEnd c.args.pool.now c.self.inside.regions e.1.endpoint) c.self.inside.ends.entries c.args.place (c.unwrap.result.0.now, c.unwrap.result.1.now) there is.ends in
    payloads-held c.args.pool.now c.self.inside.regions c.unwrap.result.1.now.endpoint c.unwrap.result.1.now.endpoint.link end.state

pub returns : goal.returns
returns c =
    let there : slice_get c.self.inside.ends.entries c.args.place ≡ Some (c.unwrap.result.0.now, c.unwrap.result.1.now) = sym c.get_index.ensures.entry ∙ ap (option_map deref_pair) c.unwrap.ensures in
    let is = (subst (IsContext c.args.pool.now) (sym c.self.view_is) c.requires.is).is in
    let has : HasQueues c.self.inside.queues.entries (c.unwrap.result.0.now, c.unwrap.result.1.now) = at_place (HasQueues c.self.inside.queues.entries) c.self.inside.ends.entries c.args.place (c.unwrap.result.0.now, c.unwrap.result.1.now) there is.placed in
    rw (← c.self.view_is) (end-at-is c.args.pool.now _ c.args.place (c.unwrap.result.0.now, c.unwrap.result.1.now) c.position_of.result c.in_ok-linked_image.field-0 c.in_ok-untold_images.field-0 c.in_ok-receives.field-0 there is.queue_names has c.position_of.ensures (c.in_ok-linked_image.ensures c.args.pool.now) c.in_ok-untold_images.ensures c.in_ok-receives.ensures)
