use Rattle.std.proofs.Common.{length}
use Rattle.dump_reader.proofs.overfull.+find_overfull.Given as goal

abbrev pub decreases-find_overfull : goal.decreases-find_overfull
decreases-find_overfull l = length l.queues.now
