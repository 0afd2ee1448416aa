use Rattle.std.proofs.Common.{◌/◌, ◌%◌, ◌∙◌, arith, ap, sym, refl}
use Rattle.std.specs.Vec.{with_item}
use Rattle.page_pool.specs.Ledger.{slot}
use Rattle.page_pool.proofs.Ledgers.{free-is}
use Rattle.page_pool.proofs.Writes.{place-there, read-held, read-whole, page-room, pool-written, puts-written}
use Rattle.page_pool.proofs.pool.PagePool.write_piece.Goals as goal

pub index_mut-requires : goal.index_mut-requires
index_mut-requires c =
    let at = ap (slot c.self.inside.lists.slots) (sym c.list.view_is) ∙ c.index_mut-pages.ensures.value in
    omega (arith, c.index_mut-pages.result.now.ok.0, place-there c.self.inside.frames c.self.inside.lists.slots c.args.self.now c.args.list.now c.index_mut-pages.result.now c.self.invariant.0.ledger c.self.view_is at c.args.at c.requires.inside)

pub write_page-requires-clause-whole : goal.write_page-requires-clause-whole
write_page-requires-clause-whole c =
    let at = ap (slot c.self.inside.lists.slots) (sym c.list.view_is) ∙ c.index_mut-pages.ensures.value in
    let place = place-there c.self.inside.frames c.self.inside.lists.slots c.args.self.now c.args.list.now c.index_mut-pages.result.now c.self.invariant.0.ledger c.self.view_is at c.args.at c.requires.inside in
    read-whole c.self.inside.frames c.self.inside.lists.slots c.args.self.now c.args.list.now c.index_mut-pages.result.now c.self.invariant.0.ledger c.self.view_is at (c.args.at / 4096) c.index_mut.result.now place c.index_mut.ensures.value

pub write_page-requires-clause-held : goal.write_page-requires-clause-held
write_page-requires-clause-held c =
    let at = ap (slot c.self.inside.lists.slots) (sym c.list.view_is) ∙ c.index_mut-pages.ensures.value in
    let place = place-there c.self.inside.frames c.self.inside.lists.slots c.args.self.now c.args.list.now c.index_mut-pages.result.now c.self.invariant.0.ledger c.self.view_is at c.args.at c.requires.inside in
    read-held c.self.inside.frames c.self.inside.lists.slots c.args.self.now c.args.list.now c.index_mut-pages.result.now c.self.invariant.0.ledger c.self.view_is at (c.args.at / 4096) c.index_mut.result.now place c.index_mut.ensures.value

pub write_page-requires-clause-free : goal.write_page-requires-clause-free
write_page-requires-clause-free c =
    let at = ap (slot c.self.inside.lists.slots) (sym c.list.view_is) ∙ c.index_mut-pages.ensures.value in
    let place = place-there c.self.inside.frames c.self.inside.lists.slots c.args.self.now c.args.list.now c.index_mut-pages.result.now c.self.invariant.0.ledger c.self.view_is at c.args.at c.requires.inside in
    page-room c.self.inside.frames c.self.inside.lists.slots c.self.inside.held c.args.list.now (c.args.at / 4096) c.index_mut-pages.result.now c.index_mut.result.now c.self.invariant.0 at place c.index_mut.ensures.value

pub invariant_of-self : goal.invariant_of-self
invariant_of-self c =
    let at = ap (slot c.self.inside.lists.slots) (sym c.list.view_is) ∙ c.index_mut-pages.ensures.value in
    let place = place-there c.self.inside.frames c.self.inside.lists.slots c.args.self.now c.args.list.now c.index_mut-pages.result.now c.self.invariant.0.ledger c.self.view_is at c.args.at c.requires.inside in (
      pool-written c.self.inside.frames c.self.inside.lists.slots c.self.inside.held c.list.inside.list (c.args.at / 4096) c.index_mut-pages.result.now c.index_mut.result.now c.self.invariant.0 c.index_mut-pages.ensures.value place c.index_mut.ensures.value c.write_page.new.frames c.write_page.new.page (with_item c.index_mut-pages.result.now (c.args.at / 4096) c.write_page.new.page) refl c.write_page.ensures.pages c.write_page.ensures.sound c.write_page.ensures.counted c.write_page.ensures.total c.write_page.ensures.whole,
      c.self.invariant.1,
    )

pub returns-clause-puts : goal.returns-clause-puts
returns-clause-puts c =
    let at = ap (slot c.self.inside.lists.slots) (sym c.list.view_is) ∙ c.index_mut-pages.ensures.value in
    let place = place-there c.self.inside.frames c.self.inside.lists.slots c.args.self.now c.args.list.now c.index_mut-pages.result.now c.self.invariant.0.ledger c.self.view_is at c.args.at c.requires.inside in
    rw (← c.list.view_is) (puts-written c.self.inside.frames c.self.inside.lists.slots c.self.inside.held c.list.inside.list (c.args.at / 4096) c.index_mut-pages.result.now c.index_mut.result.now c.self.invariant.0 c.index_mut-pages.ensures.value place c.index_mut.ensures.value c.write_page.new.frames c.write_page.new.page (with_item c.index_mut-pages.result.now (c.args.at / 4096) c.write_page.new.page) refl c.write_page.ensures.pages c.args.self.now c.args.at (c.args.at % 4096) c.args.bytes.now c.self.view_is c.requires.page (omega arith) c.write_page.ensures.kept c.write_page.ensures.bytes)

pub returns-clause-free : goal.returns-clause-free
returns-clause-free c =
    let at = ap (slot c.self.inside.lists.slots) (sym c.list.view_is) ∙ c.index_mut-pages.ensures.value in
    let place = place-there c.self.inside.frames c.self.inside.lists.slots c.args.self.now c.args.list.now c.index_mut-pages.result.now c.self.invariant.0.ledger c.self.view_is at c.args.at c.requires.inside in
    let pool = pool-written c.self.inside.frames c.self.inside.lists.slots c.self.inside.held c.list.inside.list (c.args.at / 4096) c.index_mut-pages.result.now c.index_mut.result.now c.self.invariant.0 c.index_mut-pages.ensures.value place c.index_mut.ensures.value c.write_page.new.frames c.write_page.new.page (with_item c.index_mut-pages.result.now (c.args.at / 4096) c.write_page.new.page) refl c.write_page.ensures.pages c.write_page.ensures.sound c.write_page.ensures.counted c.write_page.ensures.total c.write_page.ensures.whole in
    omega (arith, c.write_page.ensures.pages, free-is c.write_page.new.frames _ c.self.inside.held _ pool refl, free-is c.self.inside.frames c.self.inside.lists.slots c.self.inside.held c.args.self.now c.self.invariant.0 c.self.view_is)
