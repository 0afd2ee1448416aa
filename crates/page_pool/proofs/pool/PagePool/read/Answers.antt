use Rattle.std.proofs.Common.{refl, arith}
use Rattle.rdma_types.specs.Memory.{cut}
use Rattle.page_pool.specs.Pool.{bytes_in}
use Rattle.byte_run.proofs.Runs.{copied-more}
use Rattle.page_pool.proofs.Writes.{sized-cut, piece-fits}
use Rattle.page_pool.proofs.pool.PagePool.read.Goals as goal

pub loop-done-init : goal.loop-done-init
unfolding cut
loop-done-init c = (omega arith, refl)

pub loop-done-preserved : goal.loop-done-preserved
loop-done-preserved c =
    let piece = sized-cut c.piece-piece.result.now (bytes_in c.args.self.now c.args.list.now) _ _ c.piece-piece.ensures.bytes c.piece-piece.ensures.length (piece-fits c.args.self.now c.args.list.now _ c.size-size.result c.size-size.ensures.size c.size-size.ensures.pages (omega arith)) in
    (omega (arith, c.min-count.ensures), copied-more c.loop-done.out (bytes_in c.args.self.now c.args.list.now) c.piece-piece.result.now c.copy_from_slice.new.self c.args.at c.loop-done.done c.min-count.result _ _ (omega (arith, c.min-count.ensures)) (omega (arith, c.min-count.ensures)) piece.0 piece.1 c.copy_from_slice.ensures.after (omega arith) (omega arith) c.loop-done.invariant.1)
