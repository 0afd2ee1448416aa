-- The mark stays one, and not past the number.
use Rattle.std.proofs.Common.{◌≤◌, ◌-◌, length}
use Rattle.requester.specs.Marks.{IsMark}
use Rattle.requester.specs.Sending.{bares}
use Rattle.requester.proofs.marks.seek.Given as goal

abbrev pub invariant-loop-at : goal.invariant-loop-at
invariant-loop-at l = IsMark (bares l.queue.items) l.mtu l.at × (l.at.offset ≤ l.n)

abbrev pub decreases-loop-at : goal.decreases-loop-at
decreases-loop-at l = length l.queue.items - l.at.index
