use Rattle.std.proofs.Common.{ap, ◌∙◌, ◌/◌, length, get_or, arith}
use Rattle.byte_run.specs.Pages.{pages_in}
use Rattle.byte_run.proofs.Runs.{length-run, piece_found}
use Rattle.byte_run.proofs.run.ByteRun.piece.Goals as goal

pub returns-clause-bytes : goal.returns-clause-bytes
returns-clause-bytes c =
    let size = length-run (pages_in c.self.inside.pages) c.self.inside.len c.self.invariant in
    let view = ap length c.self.view_is in
    let found = c.index-list-at.is ∙ ap (λ pages. get_or pages (c.args.at / 4096) c.index-list-at.result) c.list.ensures in
    (piece_found (pages_in c.self.inside.pages) c.self.inside.len c.args.at c.min-count.result _ c.deref.result.now c.args.self.now c.index-list-at.result c.self.invariant (omega arith) (omega (arith, c.min-count.ensures)) (omega (arith, c.min-count.ensures)) found c.deref.ensures (omega arith) c.self.view_is).0

pub returns-clause-length : goal.returns-clause-length
returns-clause-length c =
    let size = length-run (pages_in c.self.inside.pages) c.self.inside.len c.self.invariant in
    let view = ap length c.self.view_is in
    let found = c.index-list-at.is ∙ ap (λ pages. get_or pages (c.args.at / 4096) c.index-list-at.result) c.list.ensures in
    (piece_found (pages_in c.self.inside.pages) c.self.inside.len c.args.at c.min-count.result _ c.deref.result.now c.args.self.now c.index-list-at.result c.self.invariant (omega arith) (omega (arith, c.min-count.ensures)) (omega (arith, c.min-count.ensures)) found c.deref.ensures (omega arith) c.self.view_is).1
    ∙ omega (arith, c.min-count.ensures)
