use Rattle.std.proofs.Common.{◌≡◌, take}
use Rattle.packetless_machine.proofs.queue.copied.Given as goal

abbrev pub invariant-loop-queue : goal.invariant-loop-queue
invariant-loop-queue l = l.all.items ≡ take l.queue-index l.queues
