use Rattle.std.proofs.Common.{length, ◌-◌, ◌≡◌, ◌≤◌, ◌++◌, drop, take}
use Rattle.std.specs.VecDeque.{deque_capacity}
use Rattle.end_queues.proofs.completion_queue.Cq.poll_into.Given as goal

abbrev pub invariant-loop-n : goal.invariant-loop-n
invariant-loop-n l =
    (l.n ≤ length l.initial.out)
    × (l.n ≤ length l.initial.self-inside.entries.items)
    × (l.out ≡ take l.n l.initial.self-inside.entries.items ++ drop l.n l.initial.out)
    × (l.self-inside.entries.items ≡ drop l.n l.initial.self-inside.entries.items)
    × (l.self-inside.capacity ≡ l.initial.self-inside.capacity)
    × (l.self-inside.reserved ≡ l.initial.self-inside.reserved)
    × (deque_capacity l.self-inside.entries ≡ deque_capacity l.initial.self-inside.entries)

abbrev pub decreases-loop-n : goal.decreases-loop-n
decreases-loop-n l = length l.initial.out - l.n
