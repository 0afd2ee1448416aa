use Rattle.std.proofs.Common.{◌≡◌, ℕ, ◌∙◌, ap, sym, refl}
use Rattle.std.specs.Prelude.{Some, map, option_map, slice_get}
use Rattle.std.specs.Map.Iter.{deref_pair}
use Rattle.rdma_types.specs.declared.names.Name.{Name}
use Rattle.rdma_types.specs.Lists.{some}
use Rattle.protocol.specs.Refusals.{names_key}
use Rattle.context_core.specs.declared.state.EndSlot.{EndSlot}
use Rattle.context_core.specs.Context.{end_of, names_in}
use Rattle.context_core.specs.Naming.{IsFit}
use Rattle.memory_keys.proofs.Dropped.{all-at}
use Rattle.std.specs.Prelude.{All}
use Rattle.std.proofs.Common.{List}
use Rattle.context_core.proofs.ListTests.{mapped-at, none-more, some-at}
use Rattle.context_core.proofs.naming.is_named.Goals as goal

fit-at : (es : List (Name × EndSlot)) (i : ℕ) (e : Name × EndSlot) → All (λ x. IsFit x.1.endpoint) es → slice_get es i ≡ Some e → IsFit e.1.endpoint
fit-at es i e all at = all-at (λ x. IsFit x.1.endpoint) es i e all at

pub loop-place-init : goal.loop-place-init
unfolding some
loop-place-init c = λ pool queues. refl

pub is_named_by-requires : goal.is_named_by-requires
is_named_by-requires c =
    let e : Name × EndSlot = (c.unwrap.result.0.now, c.unwrap.result.1.now) in
    let at : slice_get c.args.ends.now.entries c.loop-place.place ≡ Some e = sym c.get_index.ensures.entry ∙ ap (option_map deref_pair) c.unwrap.ensures in
    fit-at c.args.ends.now.entries c.loop-place.place e c.requires at

pub returns-then-is_named_by : goal.returns-then-is_named_by
returns-then-is_named_by c = λ pool queues.
    let e : Name × EndSlot = (c.unwrap.result.0.now, c.unwrap.result.1.now) in
    let at : slice_get c.args.ends.now.entries c.loop-place.place ≡ Some e = sym c.get_index.ensures.entry ∙ ap (option_map deref_pair) c.unwrap.ensures in
    let names = sym (c.is_named_by.ensures pool (names_in queues e)) ∙ c.if-is_named_by.true in
    sym (some-at (names_key c.args.key) (map (end_of pool queues) c.args.ends.now.entries) c.loop-place.place (end_of pool queues e) (mapped-at (end_of pool queues) c.args.ends.now.entries c.loop-place.place e at) names)

pub loop-place-preserved : goal.loop-place-preserved
loop-place-preserved c = λ pool queues.
    let e : Name × EndSlot = (c.unwrap.result.0.now, c.unwrap.result.1.now) in
    let at : slice_get c.args.ends.now.entries c.loop-place.place ≡ Some e = sym c.get_index.ensures.entry ∙ ap (option_map deref_pair) c.unwrap.ensures in
    let names = sym (c.is_named_by.ensures pool (names_in queues e)) ∙ c.if-is_named_by.false in
    none-more (names_key c.args.key) (map (end_of pool queues) c.args.ends.now.entries) c.loop-place.place (end_of pool queues e) (mapped-at (end_of pool queues) c.args.ends.now.entries c.loop-place.place e at) (c.loop-place.invariant pool queues) names
