use Rattle.std.proofs.Common.{◌≡◌, ◌++◌, take}
use Rattle.std.specs.Prelude.{flat_map}
use Rattle.dump_writer.specs.Text.{queue_line}
use Rattle.dump_writer.proofs.text.put_queues.Given as goal

abbrev pub invariant-loop-queue : goal.invariant-loop-queue
invariant-loop-queue l = l.out.items ≡ l.initial.out.items ++ flat_map queue_line (take l.queue-index l.queues)
