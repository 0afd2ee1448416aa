use Rattle.context_dump.proofs.Pieces.{fed_kept}
use Rattle.context_dump.proofs.reader.DumpReader.feed.Goals as goal

pub returns-in-Some : goal.returns-in-Some
returns-in-Some c = fed_kept c.self.inside.bytes.items c.args.self.now c.args.piece.now c.self.inside.fault c.in-Some.fault c.from.result c.self.view_is c.self.invariant.1 c.in-Some.is c.from.ensures
