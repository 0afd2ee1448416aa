use Rattle.std.proofs.Common.{◌≡◌, ◌+◌}
use Rattle.context_core.proofs.coming.reserve_places.Given as goal

abbrev pub invariant-loop-place : goal.invariant-loop-place
invariant-loop-place l = l.queue ≡ record l.initial.queue { reserved = l.initial.queue.reserved + l._place }
