use Rattle.std.proofs.Common.{length}
use Rattle.dump_reader.proofs.overfull.+reserved.Given as goal

abbrev pub decreases-reserved : goal.decreases-reserved
decreases-reserved l = length l.ends.now
