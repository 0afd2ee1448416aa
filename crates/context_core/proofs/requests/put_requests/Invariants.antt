use Rattle.std.proofs.Common.{◌≡◌, take}
use Rattle.context_core.specs.Coming.{Come}
use Rattle.context_core.proofs.requests.put_requests.Given as goal

abbrev pub invariant-loop-image : goal.invariant-loop-image
invariant-loop-image l = record {
  depth : l.queue.depth ≡ l.initial.queue.depth;
  come : Come l.initial.pool l.pool l.regions l.domain (take l.image-index l.images) l.queue.items;
}
