use Rattle.std.proofs.Common.{◌∙◌, sym, arith}
use Rattle.dump_writer.proofs.Back.{reads_back}
use Rattle.dump_writer.proofs.writer.encode_dump.Goals as goal

pub returns-then-count-eq0-clause-reads_back : goal.returns-then-count-eq0-clause-reads_back
returns-then-count-eq0-clause-reads_back c =
    reads_back c.args.image.now c.loop-writer.writer c.loop-writer.dump.items _ c.requires c.loop-writer.invariant.same c.loop-writer.invariant.bytes (sym c.fill-count.ensures.count ∙ c.if-count-eq0.true) (omega arith) c.fill-count.ensures.fits
