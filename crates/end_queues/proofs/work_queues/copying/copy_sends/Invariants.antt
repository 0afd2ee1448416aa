use Rattle.std.proofs.Common.{◌≡◌, take}
use Rattle.end_queues.proofs.work_queues.copying.copy_sends.Given as goal

abbrev pub invariant-loop-i : goal.invariant-loop-i
invariant-loop-i l = l.copy ≡ record { depth = l.queue.depth; items = take l.i l.queue.items }
