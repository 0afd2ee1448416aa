use Rattle.std.proofs.Common.{◌≡◌, take}
use Rattle.step_differences.proofs.copies.copy_queues.Given as goal

abbrev pub invariant-loop-q : goal.invariant-loop-q
invariant-loop-q l = l.copies.items ≡ take l.q-index l.queues
