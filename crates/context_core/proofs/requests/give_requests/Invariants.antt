use Rattle.std.proofs.Common.{length}
use Rattle.context_core.proofs.RequestsFromImage.{Giving}
use Rattle.context_core.proofs.requests.give_requests.Given as goal

abbrev pub invariant-loop-posted : goal.invariant-loop-posted
invariant-loop-posted l = Giving l.initial.pool l.pool l.initial.queue.items l.queue.items

abbrev pub decreases-loop-posted : goal.decreases-loop-posted
decreases-loop-posted l = length l.queue.items
