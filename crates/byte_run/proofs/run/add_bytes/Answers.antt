use Rattle.std.proofs.Common.{◌≡◌, ◌+◌, ◌*◌, ◌∙◌, ap, length, take, arith}
use Rattle.byte_run.specs.Pages.{joined}
use Rattle.byte_run.proofs.Runs.{length-pages, before_more, piece_more}
use Rattle.byte_run.proofs.run.add_bytes.Goals as goal

pub returns-in_err-add_piece-clause-kept : goal.returns-in_err-add_piece-clause-kept
returns-in_err-add_piece-clause-kept c =
    let whole : length (joined c.args.pages.now.items) ≡ 4096 * length c.args.pages.now.items = length-pages c.args.pages.now.items c.requires.run.even in
    before_more c.args.at c.loop-done.done _ (joined c.args.pages.now.items) _ (omega arith) (ap (λ xs. take (c.args.at + c.loop-done.done) (joined xs)) c.in_err-add_piece.ensures.err ∙ c.loop-done.invariant.2)

pub loop-done-preserved : goal.loop-done-preserved
loop-done-preserved c = (
  omega (arith, c.min-count.ensures),
  record { even = c.in_ok-add_piece.ensures.run.even; room = omega (arith, c.in_ok-add_piece.ensures.run.room, c.min-count.ensures) },
  piece_more c.args.at c.loop-done.done c.min-count.result _ (joined c.args.pages.now.items) _ _ c.args.bytes.now (omega (arith, c.min-count.ensures)) (omega arith) c.loop-done.invariant.2 c.in_ok-add_piece.ensures.bytes,
)

pub returns-clause-kept : goal.returns-clause-kept
returns-clause-kept c =
    let whole : length (joined c.args.pages.now.items) ≡ 4096 * length c.args.pages.now.items = length-pages c.args.pages.now.items c.requires.run.even in
    before_more c.args.at c.loop-done.done _ (joined c.args.pages.now.items) _ (omega arith) c.loop-done.invariant.2
