use Rattle.std.proofs.Common.{◌≡◌, ◌≤◌, take}
use Rattle.std.specs.VecDeque.{deque_len, deque_capacity}
use Rattle.end_queues.proofs.completion_queue.Cq.from_entries.Given as goal

abbrev pub invariant-loop-entry : goal.invariant-loop-entry
invariant-loop-entry l =
    (l.held.items ≡ take l.entry-index l.entries)
    × (deque_len l.held ≡ l.entry-index)
    × (l.capacity ≤ deque_capacity l.held)
