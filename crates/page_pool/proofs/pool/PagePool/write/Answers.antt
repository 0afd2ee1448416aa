use Rattle.std.proofs.Common.{◌∙◌, refl, arith}
use Rattle.byte_run.proofs.Runs.{mid-cut}
use Rattle.page_pool.proofs.Writes.{write-none, write-more, size-after}
use Rattle.page_pool.proofs.pool.PagePool.write.Goals as goal

pub loop-done-init : goal.loop-done-init
loop-done-init c = (omega arith, write-none c.args.self.now c.args.list.now c.args.at c.args.bytes.now c.requires.held, refl)

pub write_piece-requires-clause-inside : goal.write_piece-requires-clause-inside
write_piece-requires-clause-inside c =
    let size = size-after c.args.self.now c.loop-done.self c.args.list.now c.args.at c.loop-done.done c.args.bytes.now c.loop-done.invariant.1 c.requires.inside in
    omega (arith, size, c.requires.inside, c.loop-done-test.true)

pub loop-done-preserved : goal.loop-done-preserved
loop-done-preserved c = (
  omega (arith, c.min-count.ensures),
  write-more c.args.self.now c.loop-done.self c.write_piece.new.self c.args.list.now c.args.bytes.now _ c.args.at c.loop-done.done c.min-count.result c.loop-done.invariant.1 c.write_piece.ensures.puts (mid-cut c.loop-done.done _ c.min-count.result c.args.bytes.now (omega arith)) c.requires.inside (omega (arith, c.min-count.ensures)),
  c.write_piece.ensures.free ∙ c.loop-done.invariant.2,
)
