use Rattle.std.proofs.Common.{◌≡◌, take}
use Rattle.std.specs.Prelude.{map}
use Rattle.protocol.specs.Images.{queue_image}
use Rattle.endpoint_core.specs.Queues.{queues_of}
use Rattle.context_core.proofs.image_queues.queue_images.Given as goal

abbrev pub invariant-loop-i : goal.invariant-loop-i
invariant-loop-i l = l.images.items ≡ map queue_image (queues_of (take l.i l.queues.entries))
