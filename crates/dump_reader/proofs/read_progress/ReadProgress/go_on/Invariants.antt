use Rattle.std.proofs.Common.{◌+◌, ◌-◌, ◌*◌, length}
use Rattle.dump_reader.specs.Ahead.{weight}
use Rattle.dump_reader.specs.ReadProgress.{Stands}
use Rattle.dump_reader.proofs.read_progress.ReadProgress.go_on.Given as goal

abbrev pub invariant-loop-self : goal.invariant-loop-self
invariant-loop-self l = Stands l.self l.bytes

abbrev pub decreases-loop-self : goal.decreases-loop-self
decreases-loop-self l = 2 * (length l.bytes - l.self.at) + weight l.self.place
