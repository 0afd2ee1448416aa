use Rattle.std.proofs.Common.{◌≡◌, ◌++◌, ◌∷◌, [], ap, sym, ◌∙◌}
use Rattle.std.specs.Prelude.{Some, map, slice_get}
use Rattle.std.specs.Option.{option_map}
use Rattle.std.specs.Map.Iter.{deref_pair}
use Rattle.rdma_types.specs.Objects.{CompletionQueue}
use Rattle.rdma_types.specs.declared.names.Name.{Name}
use Rattle.end_queues.specs.Completions.{Queue}
use Rattle.protocol.specs.Images.{queue_image}
use Rattle.endpoint_core.specs.Queues.{queues_of}
use Rattle.context_core.proofs.ListPrefixes.{both_of, is_there, taken_all}
use Rattle.context_core.proofs.image_queues.queue_images.Goals as goal

abbrev shown : Name × Queue → CompletionQueue
shown q = record { name = q.0; capacity = q.1.capacity; entries = q.1.entries }

pub loop-i-preserved : goal.loop-i-preserved
loop-i-preserved c =
    let there : slice_get c.args.queues.now.entries c.loop-i.i ≡ Some (c.unwrap.result.0.now, c.unwrap.result.1.now) = sym c.get_index.ensures.entry ∙ ap (option_map deref_pair) c.unwrap.ensures in
    c.in_ok-push.ensures.items ∙ (ap (λ xs. xs ++ c.in_ok-image.image ∷ []) c.loop-i.invariant ∙ both_of queue_image shown c.args.queues.now.entries c.loop-i.i (c.unwrap.result.0.now, c.unwrap.result.1.now) c.in_ok-image.image there c.in_ok-image.ensures)

pub unwrap-requires : goal.unwrap-requires
unwrap-requires c = is_there deref_pair c.get_index.result c.args.queues.now.entries c.loop-i.i c.len-i-end.result c.get_index.ensures.entry c.len-i-end.ensures.len c.loop-i-test.true

pub returns : goal.returns
returns c = c.new.ensures ∙ (c.loop-i.invariant ∙ ap (λ qs. map queue_image (queues_of qs)) (taken_all c.args.queues.now.entries c.loop-i.i c.len-i-end.result c.len-i-end.ensures.len c.loop-i-test.false))
