use Rattle.std.proofs.Common.{length}
use Rattle.context_core.proofs.ReleasedPayloads.{IsGiving}
use Rattle.context_core.proofs.leaving.give_requests.Given as goal

abbrev pub invariant-loop-p : goal.invariant-loop-p
invariant-loop-p l = IsGiving l.initial.pool l.pool l.initial.requester.items l.requester.items

abbrev pub decreases-loop-p : goal.decreases-loop-p
decreases-loop-p l = length l.requester.items
