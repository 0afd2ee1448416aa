use Rattle.std.proofs.Common.{◌∙◌, arith, ap, sym}
use Rattle.page_pool.specs.Ledger.{slot}
use Rattle.page_pool.proofs.Ledgers.{size-is, list-within}
use Rattle.page_pool.proofs.pool.PagePool.size.Goals as goal

pub overflow_mul-result : goal.overflow_mul-result
overflow_mul-result c = omega (arith, c.len.ensures, c.index.result.now.ok.0, c.self.invariant.0.ledger.sound.few, c.self.invariant.0.room, list-within c.self.inside.frames c.self.inside.lists.slots c.self.inside.held c.list.inside.list c.index.result.now c.self.invariant.0 c.index.ensures)

pub returns-clause-size : goal.returns-clause-size
returns-clause-size c =
    let at = ap (slot c.self.inside.lists.slots) (sym c.list.view_is) ∙ c.index.ensures in
    omega (arith, c.len.ensures, c.index.result.now.ok.0, (size-is c.self.inside.frames c.self.inside.lists.slots c.args.self.now c.args.list.now c.index.result.now c.self.invariant.0.ledger c.self.view_is at).0)

pub returns-clause-pages : goal.returns-clause-pages
returns-clause-pages c =
    let at = ap (slot c.self.inside.lists.slots) (sym c.list.view_is) ∙ c.index.ensures in
    omega (arith, c.len.ensures, c.index.result.now.ok.0, (size-is c.self.inside.frames c.self.inside.lists.slots c.args.self.now c.args.list.now c.index.result.now c.self.invariant.0.ledger c.self.view_is at).1)
