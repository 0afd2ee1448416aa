use Rattle.std.proofs.Common.{◌≡◌, length}
use Rattle.end_completions.proofs.Failed.{Flushing}
use Rattle.end_completions.proofs.failing.flush_unused.Given as goal

abbrev pub invariant-loop-r : goal.invariant-loop-r
invariant-loop-r l = Flushing l.number l.recvs.items l.initial.recvs.items l.cq l.initial.cq × (l.recvs.depth ≡ l.initial.recvs.depth)

abbrev pub decreases-loop-r : goal.decreases-loop-r
decreases-loop-r l = length l.recvs.items
