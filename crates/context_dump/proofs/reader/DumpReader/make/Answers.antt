use Rattle.context_dump.proofs.Pieces.{none_sound}
use Rattle.context_dump.proofs.reader.DumpReader.make.Goals as goal

pub invariant_of-result : goal.invariant_of-result
invariant_of-result c = (tt, none_sound c.new.result.items c.new.ensures.items)
