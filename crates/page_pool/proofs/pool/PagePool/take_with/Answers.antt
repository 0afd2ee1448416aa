use Rattle.std.proofs.Common.{◌+◌, arith, ap, refl}
use Rattle.page_pool.specs.Pool.{free_pages}
use Rattle.page_pool.proofs.Ledgers.{free-is, own-within, same-held, same-pool, put-in, new-in, not_no_page, done_no_page}
use Rattle.page_pool.proofs.pool.PagePool.take_with.Goals as goal

pub returns-in_err-pages-clause-no_page : goal.returns-in_err-pages-clause-no_page
returns-in_err-pages-clause-no_page c = not_no_page c.from_residual.result (free_pages c.args.self.now) c.args.n c.from_residual.ensures.1 (omega (arith, c.free.ensures.free))

pub returns-in_err-reserve-clause-no_page : goal.returns-in_err-reserve-clause-no_page
returns-in_err-reserve-clause-no_page c = not_no_page c.from_residual-in_err-reserve.result (free_pages c.args.self.now) c.args.n c.from_residual-in_err-reserve.ensures.1 (omega (arith, c.free.ensures.free))

pub take_pages-requires-clause-free : goal.take_pages-requires-clause-free
take_pages-requires-clause-free c = omega (arith, c.free.ensures.free, own-within c.self.inside.frames c.self.inside.lists.slots c.self.inside.held c.self.invariant.0, free-is c.self.inside.frames c.self.inside.lists.slots c.self.inside.held c.args.self.now c.self.invariant.0 c.self.view_is)

pub overflow_add-self : goal.overflow_add-self
overflow_add-self c = omega (arith, c.free.ensures.free, c.self.invariant.0.ledger.sound.few, free-is c.self.inside.frames c.self.inside.lists.slots c.self.inside.held c.args.self.now c.self.invariant.0 c.self.view_is)

pub invariant_of-self-2 : goal.invariant_of-self-2
invariant_of-self-2 c =
    let e = ap (λ s. s.slots) c.reserve.ensures.rest_kept in
    let g = same-held c.self.inside.frames c.self.inside.lists.slots c.reserve.new.self.slots c.self.inside.held e c.self.invariant.0 in
    let free = free-is c.self.inside.frames c.self.inside.lists.slots c.self.inside.held c.args.self.now c.self.invariant.0 c.self.view_is in (
      put-in c.self.inside.frames c.take_pages.new.frames c.reserve.new.self.slots c.insert_reserved-list.new.self.slots c.insert_reserved-list.result c.take_pages.new.pages c.take_pages.new.pages.items refl c.insert_reserved-list.ensures.updates.others c.self.inside.held (c.self.inside.held + c.args.n) g c.take_pages.ensures.sound c.take_pages.ensures.pages c.insert_reserved-list.ensures.was_vacant c.insert_reserved-list.ensures.updates.changed c.take_pages.ensures.whole c.take_pages.ensures.counted c.take_pages.ensures.total (omega (arith, c.take_pages.ensures.len)) (omega (arith, c.free.ensures.free, free)),
      c.self.invariant.1,
    )

pub returns-clause-puts : goal.returns-clause-puts
returns-clause-puts c =
    let e = ap (λ s. s.slots) c.reserve.ensures.rest_kept in
    let g = same-held c.self.inside.frames c.self.inside.lists.slots c.reserve.new.self.slots c.self.inside.held e c.self.invariant.0 in
    new-in c.self.inside.frames c.take_pages.new.frames c.reserve.new.self.slots c.insert_reserved-list.new.self.slots c.args.self.now c.insert_reserved-list.result c.take_pages.new.pages _ g.ledger (same-pool c.self.inside.frames c.self.inside.lists.slots c.reserve.new.self.slots c.args.self.now e c.self.view_is) c.take_pages.ensures.pages c.insert_reserved-list.ensures.updates.changed c.insert_reserved-list.ensures.updates.others c.take_pages.ensures.kept c.take_pages.ensures.bytes

pub returns-clause-free : goal.returns-clause-free
returns-clause-free c =
    let e = ap (λ s. s.slots) c.reserve.ensures.rest_kept in
    let g = same-held c.self.inside.frames c.self.inside.lists.slots c.reserve.new.self.slots c.self.inside.held e c.self.invariant.0 in
    let free = free-is c.self.inside.frames c.self.inside.lists.slots c.self.inside.held c.args.self.now c.self.invariant.0 c.self.view_is in
    let pool = put-in c.self.inside.frames c.take_pages.new.frames c.reserve.new.self.slots c.insert_reserved-list.new.self.slots c.insert_reserved-list.result c.take_pages.new.pages c.take_pages.new.pages.items refl c.insert_reserved-list.ensures.updates.others c.self.inside.held (c.self.inside.held + c.args.n) g c.take_pages.ensures.sound c.take_pages.ensures.pages c.insert_reserved-list.ensures.was_vacant c.insert_reserved-list.ensures.updates.changed c.take_pages.ensures.whole c.take_pages.ensures.counted c.take_pages.ensures.total (omega (arith, c.take_pages.ensures.len)) (omega (arith, c.free.ensures.free, free)) in
    omega (arith, c.take_pages.ensures.pages, free-is c.take_pages.new.frames c.insert_reserved-list.new.self.slots (c.self.inside.held + c.args.n) _ pool refl, free)

pub returns-clause-no_page : goal.returns-clause-no_page
returns-clause-no_page c = done_no_page c.insert_reserved-list.result (free_pages c.args.self.now) c.args.n (omega (arith, c.free.ensures.free))
