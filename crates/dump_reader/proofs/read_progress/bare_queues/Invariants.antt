use Rattle.std.proofs.Common.{◌≡◌, map}
use Rattle.dump_reader.specs.Groups.{placed}
use Rattle.dump_reader.proofs.read_progress.bare_queues.Given as goal

abbrev pub invariant-loop-placed : goal.invariant-loop-placed
invariant-loop-placed l = l.bare.items ≡ map (λ q. q.queue) (map placed l.yielded)
