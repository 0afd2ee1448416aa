use Rattle.std.proofs.Common.{◌≡◌, take}
use Rattle.std.specs.Prelude.{map}
use Rattle.protocol.specs.Images.{posted_image}
use Rattle.end_queues.specs.Untold.{untold_in}
use Rattle.context_core.proofs.image_work.posted_images.Given as goal

abbrev pub invariant-loop-i : goal.invariant-loop-i
invariant-loop-i l = l.images.items ≡ map posted_image (untold_in l.pool (take l.i l.requester.items))
