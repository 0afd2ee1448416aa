use Rattle.std.proofs.Common.{refl, arith}
use Rattle.rdma_types.specs.Memory.{cut}
use Rattle.byte_run.proofs.Runs.{copied-more}
use Rattle.byte_run.proofs.run.ByteRun.read.Goals as goal

pub loop-done-init : goal.loop-done-init
unfolding cut
loop-done-init c = (omega arith, refl)

pub loop-done-preserved : goal.loop-done-preserved
loop-done-preserved c =
    (omega (arith, c.min-count.ensures), copied-more c.loop-done.out c.args.self.now c.piece-piece.result.now c.copy_from_slice.new.self c.args.at c.loop-done.done c.min-count.result _ _ (omega (arith, c.min-count.ensures)) (omega (arith, c.min-count.ensures)) c.piece-piece.ensures.bytes (omega (arith, c.piece-piece.ensures.length)) c.copy_from_slice.ensures.after (omega arith) (omega arith) c.loop-done.invariant.1)
