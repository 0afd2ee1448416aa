use Rattle.std.proofs.Common.{◌≡◌, ◌≤◌, take}
use Rattle.std.specs.VecDeque.{deque_len, deque_capacity}
use Rattle.end_queues.proofs.completion_queue.Cq.copy.Given as goal

abbrev pub invariant-loop-i : goal.invariant-loop-i
invariant-loop-i l =
    (l.entries.items ≡ take l.i l.self-inside.entries.items)
    × (deque_len l.entries ≡ l.i)
    × (l.self-inside.capacity ≤ deque_capacity l.entries)
