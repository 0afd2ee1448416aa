use Rattle.std.proofs.Common.{◌-◌, length}
use Rattle.dump_writer.proofs.Given.{IsGiven}
use Rattle.dump_writer.proofs.writer.DumpWriter.fill.Given as goal

abbrev pub invariant-loop-filled : goal.invariant-loop-filled
invariant-loop-filled l = IsGiven l.initial.self l.self l.initial.out l.out l.filled

abbrev pub decreases-loop-filled : goal.decreases-loop-filled
decreases-loop-filled l = length l.initial.out - l.filled
