use Rattle.std.proofs.Common.{◌≡◌, take}
use Rattle.context_core.proofs.links.recv_queue.Given as goal

abbrev pub invariant-loop-receive : goal.invariant-loop-receive
invariant-loop-receive l = (l.queue.depth ≡ l.initial.queue.depth) × (l.queue.items ≡ take l.receive-index l.images)
