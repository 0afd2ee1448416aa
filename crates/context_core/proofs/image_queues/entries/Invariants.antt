use Rattle.std.proofs.Common.{◌≡◌, take}
use Rattle.context_core.proofs.image_queues.entries.Given as goal

abbrev pub invariant-loop-i : goal.invariant-loop-i
invariant-loop-i l = l.entries.items ≡ take l.i l.queue.entries
