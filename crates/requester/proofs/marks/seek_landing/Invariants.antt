-- The mark stays one, with the same barrier.
use Rattle.std.proofs.Common.{◌≡◌, ◌-◌, length}
use Rattle.rdma_types.specs.Spans.{next_landing}
use Rattle.requester.specs.Marks.{IsMark}
use Rattle.requester.specs.Sending.{bares}
use Rattle.requester.proofs.marks.seek_landing.Given as goal

abbrev pub invariant-loop-at : goal.invariant-loop-at
invariant-loop-at l = IsMark (bares l.queue.items) l.mtu l.at × (next_landing (bares l.queue.items) l.mtu l.at.offset ≡ next_landing (bares l.queue.items) l.mtu l.initial.at.offset)

abbrev pub decreases-loop-at : goal.decreases-loop-at
decreases-loop-at l = length l.queue.items - l.at.index
