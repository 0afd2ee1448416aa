use Rattle.std.proofs.Common.{length}
use Rattle.end_completions.proofs.Failed.{Failing}
use Rattle.end_completions.proofs.failing.flush_requests.Given as goal

abbrev pub invariant-loop-p : goal.invariant-loop-p
invariant-loop-p l = Failing l.number l.status l.initial.status l.requester l.initial.requester l.pool l.initial.pool l.cq l.initial.cq

abbrev pub decreases-loop-p : goal.decreases-loop-p
decreases-loop-p l = length l.requester.items
