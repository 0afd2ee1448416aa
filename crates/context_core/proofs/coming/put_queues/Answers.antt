use Rattle.std.proofs.Common.{◌≡◌, ◌∙◌, ap}
use Rattle.std.specs.Prelude.{◌++◌, ◌∷◌, [], None, bytes_eq}
use Rattle.std.specs.Map.{lookup}
use Rattle.indexmap.proofs.CallerLemmas.{insert_entry-new}
use Rattle.end_queues.specs.Completions.{unreserved}
use Rattle.context_core.specs.Coming.{queue_after}
use Rattle.context_core.proofs.PlacesFromImage.{queue-more, queue-new}
use Rattle.context_core.proofs.coming.put_queues.Goals as goal

pub loop-image-preserved : goal.loop-image-preserved
loop-image-preserved c =
    let absent : lookup (bytes_eq c.image-item.result.name) c.loop-image.queues.entries ≡ None = ap (lookup (bytes_eq c.image-item.result.name)) c.loop-image.invariant ∙ queue-new c.args.images.now c.loop-image.image-index c.image-item.result c.loop-image-test.true c.image-item.is c.requires.names in
    let queue = c.in_ok-queue.ensures ∙ ap (unreserved c.image-item.result.capacity) c.as_slice.ensures in
    c.in_ok-insert.ensures.entries
    ∙ (insert_entry-new bytes_eq c.loop-image.queues c.image-item.result.name c.in_ok-queue.queue absent
    ∙ (ap (λ q. c.loop-image.queues.entries ++ (c.image-item.result.name, q) ∷ []) queue
    ∙ (ap (λ es. es ++ queue_after c.image-item.result ∷ []) c.loop-image.invariant ∙ queue-more c.args.images.now c.loop-image.image-index c.image-item.result c.loop-image-test.true c.image-item.is)))
