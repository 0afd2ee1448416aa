use Rattle.std.proofs.Common.{◌≡◌, take}
use Rattle.std.specs.Prelude.{map}
use Rattle.context_core.specs.Coming.{queue_after}
use Rattle.context_core.proofs.coming.put_queues.Given as goal

abbrev pub invariant-loop-image : goal.invariant-loop-image
invariant-loop-image l = l.queues.entries ≡ map queue_after (take l.image-index l.images)
