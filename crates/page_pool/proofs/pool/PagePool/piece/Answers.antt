use Rattle.std.proofs.Common.{◌/◌, ◌∙◌, arith, ap, sym, length}
use Rattle.page_pool.specs.Ledger.{slot}
use Rattle.page_pool.proofs.Writes.{place-there, read-held, read-size, read-bytes}
use Rattle.page_pool.proofs.pool.PagePool.piece.Goals as goal

pub index-page-requires : goal.index-page-requires
index-page-requires c =
    let at = ap (slot c.self.inside.lists.slots) (sym c.list.view_is) ∙ c.index.ensures in
    omega (arith, c.index.result.now.ok.0, place-there c.self.inside.frames c.self.inside.lists.slots c.args.self.now c.args.list.now c.index.result.now c.self.invariant.0.ledger c.self.view_is at c.args.at c.requires.inside)

pub page_of-requires : goal.page_of-requires
page_of-requires c =
    let at = ap (slot c.self.inside.lists.slots) (sym c.list.view_is) ∙ c.index.ensures in
    let place = place-there c.self.inside.frames c.self.inside.lists.slots c.args.self.now c.args.list.now c.index.result.now c.self.invariant.0.ledger c.self.view_is at c.args.at c.requires.inside in
    record { held = read-held c.self.inside.frames c.self.inside.lists.slots c.args.self.now c.args.list.now c.index.result.now c.self.invariant.0.ledger c.self.view_is at (c.args.at / 4096) c.index-page.result.now place c.index-page.ensures }

pub rest_of-requires : goal.rest_of-requires
rest_of-requires c =
    let at = ap (slot c.self.inside.lists.slots) (sym c.list.view_is) ∙ c.index.ensures in
    let place = place-there c.self.inside.frames c.self.inside.lists.slots c.args.self.now c.args.list.now c.index.result.now c.self.invariant.0.ledger c.self.view_is at c.args.at c.requires.inside in
    let size = read-size c.self.inside.frames c.self.inside.lists.slots c.args.self.now c.args.list.now c.index.result.now c.self.invariant.0.ledger c.self.view_is at (c.args.at / 4096) c.index-page.result.now place c.index-page.ensures in
    omega (arith, size, ap length c.page_of.ensures)

pub returns-clause-bytes : goal.returns-clause-bytes
returns-clause-bytes c =
    let at = ap (slot c.self.inside.lists.slots) (sym c.list.view_is) ∙ c.index.ensures in
    (read-bytes c.self.inside.frames c.self.inside.lists.slots c.args.self.now c.args.list.now c.index.result.now c.self.invariant.0.ledger c.self.view_is at c.args.at c.index-page.result.now c.page_of.result.now c.rest_of.result.now c.requires.inside c.index-page.ensures c.page_of.ensures c.rest_of.ensures).0

pub returns-clause-length : goal.returns-clause-length
returns-clause-length c =
    let at = ap (slot c.self.inside.lists.slots) (sym c.list.view_is) ∙ c.index.ensures in
    (read-bytes c.self.inside.frames c.self.inside.lists.slots c.args.self.now c.args.list.now c.index.result.now c.self.invariant.0.ledger c.self.view_is at c.args.at c.index-page.result.now c.page_of.result.now c.rest_of.result.now c.requires.inside c.index-page.ensures c.page_of.ensures c.rest_of.ensures).1
