use Rattle.std.proofs.Common.{◌+◌, ap, ◌∙◌, length, refl, arith, subst}
use Rattle.std.specs.Prelude.{Some}
use Rattle.rdma_types.specs.Memory.{put}
use Rattle.page_pool.specs.Pool.{bytes_in, Puts}
use Rattle.page_pool.proofs.Writes.{write-none, write-more, size-after}
use Rattle.page_pool.proofs.pool.PagePool.write_run.Goals as goal

pub loop-done-init : goal.loop-done-init
loop-done-init c = (omega arith, refl, write-none c.args.self.now c.args.list.now c.args.at c.args.bytes.now c.requires.held, refl)

pub write-requires-clause-inside : goal.write-requires-clause-inside
write-requires-clause-inside c =
    let size = size-after c.args.self.now c.loop-done.self c.args.list.now c.args.at c.loop-done.done c.args.bytes.now c.loop-done.invariant.2 c.requires.inside in
    omega (arith, size, c.requires.inside, c.piece-piece.ensures.length, ap (λ k. length (bytes_in c.loop-done.self k)) c.loop-done.invariant.1)

pub loop-done-preserved : goal.loop-done-preserved
loop-done-preserved c =
    let puts = subst (λ k. Puts c.loop-done.self c.write.new.self k (Some (put (bytes_in c.loop-done.self k) (c.args.at + c.loop-done.done) c.piece-piece.result.now))) c.loop-done.invariant.1 c.write.ensures.puts in (
      omega (arith, c.piece-piece.ensures.length),
      c.write.ensures.list ∙ c.loop-done.invariant.1,
      write-more c.args.self.now c.loop-done.self c.write.new.self c.args.list.now c.args.bytes.now c.piece-piece.result.now c.args.at c.loop-done.done (length c.piece-piece.result.now) c.loop-done.invariant.2 puts c.piece-piece.ensures.bytes c.requires.inside (omega (arith, c.piece-piece.ensures.length)),
      c.write.ensures.free ∙ c.loop-done.invariant.3,
    )
