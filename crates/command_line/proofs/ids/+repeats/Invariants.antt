use Rattle.std.proofs.Common.{length}
use Rattle.command_line.proofs.ids.+repeats.Given as goal

abbrev pub decreases-repeats : goal.decreases-repeats
decreases-repeats l = length l.ids.now
