use Rattle.std.proofs.Common.{◌+◌, ◌∙◌, arith, ap, sym, length, refl, subst}
use Rattle.std.specs.List.{AllZip, flat_map}
use Rattle.page_pool.specs.Ledger.{IsSamePage, page_at, page_bytes, slot}
use Rattle.page_pool.specs.Pool.{free_pages}
use Rattle.page_pool.specs.declared.page.Page.TheVariants.{Own}
use Rattle.page_pool.proofs.Listed.{owned-few}
use Rattle.page_pool.proofs.Ledgers.{free-is, own-within, size-is, same-held, same-pool, put-in, new-in, not_no_page, done_no_page}
use Rattle.page_pool.proofs.Writes.{part-bytes, part-held, part-length, part-whole}
use Rattle.page_pool.proofs.pool.PagePool.share.Goals as goal

pub returns-in_err-pages-clause-no_page : goal.returns-in_err-pages-clause-no_page
returns-in_err-pages-clause-no_page c = not_no_page c.from_residual.result (free_pages c.args.self.now) c.args.count c.from_residual.ensures.1 (omega (arith, c.free.ensures.free))

pub returns-in_err-reserve-clause-no_page : goal.returns-in_err-reserve-clause-no_page
returns-in_err-reserve-clause-no_page c = not_no_page c.from_residual-in_err-reserve.result (free_pages c.args.self.now) c.args.count c.from_residual-in_err-reserve.ensures.1 (omega (arith, c.free.ensures.free))

pub part_of-requires : goal.part_of-requires
part_of-requires c =
    let at = ap (slot c.self.inside.lists.slots) (sym c.list.view_is) ∙ c.index.ensures in
    omega (arith, ap length c.deref.ensures.value, c.requires.inside, (size-is c.self.inside.frames c.self.inside.lists.slots c.args.self.now c.args.list.now c.index.result.now c.self.invariant.0.ledger c.self.view_is at).1)

pub hold_pages-requires-clause-held : goal.hold_pages-requires-clause-held
hold_pages-requires-clause-held c =
    let at = ap (slot c.self.inside.lists.slots) (sym c.list.view_is) ∙ c.index.ensures in
    let same = subst (AllZip IsSamePage _) (sym c.deref-2.ensures.value) c.in_ok-pages.ensures in
    λ i l. part-held c.self.inside.frames c.self.inside.lists.slots c.args.self.now c.args.list.now c.index.result.now c.self.invariant.0.ledger c.self.view_is at c.args.first c.args.count c.deref.result.now c.deref-2.result.now c.deref.ensures.value same i l

pub hold_pages-requires-clause-free : goal.hold_pages-requires-clause-free
hold_pages-requires-clause-free c =
    let at = ap (slot c.self.inside.lists.slots) (sym c.list.view_is) ∙ c.index.ensures in
    let same = subst (AllZip IsSamePage _) (sym c.deref-2.ensures.value) c.in_ok-pages.ensures in
    let size = (size-is c.self.inside.frames c.self.inside.lists.slots c.args.self.now c.args.list.now c.index.result.now c.self.invariant.0.ledger c.self.view_is at).1 in
    let len = part-length c.self.inside.frames c.self.inside.lists.slots c.args.self.now c.args.list.now c.index.result.now c.self.invariant.0.ledger c.self.view_is at c.args.first c.args.count c.deref.result.now c.deref-2.result.now c.deref.ensures.value same (omega (arith, size, c.requires.inside)) in
    omega (arith, len, owned-few c.deref-2.result.now, c.free.ensures.free, own-within c.self.inside.frames c.self.inside.lists.slots c.self.inside.held c.self.invariant.0, free-is c.self.inside.frames c.self.inside.lists.slots c.self.inside.held c.args.self.now c.self.invariant.0 c.self.view_is)

pub overflow_add-self : goal.overflow_add-self
overflow_add-self c = omega (arith, c.free.ensures.free, c.self.invariant.0.ledger.sound.few, free-is c.self.inside.frames c.self.inside.lists.slots c.self.inside.held c.args.self.now c.self.invariant.0 c.self.view_is)

pub invariant_of-self-2 : goal.invariant_of-self-2
invariant_of-self-2 c =
    let e = ap (λ s. s.slots) c.reserve.ensures.rest_kept in
    let g = same-held c.self.inside.frames c.self.inside.lists.slots c.reserve.new.self.slots c.self.inside.held e c.self.invariant.0 in
    let at = ap (slot c.self.inside.lists.slots) (sym c.list.view_is) ∙ c.index.ensures in
    let same = subst (AllZip IsSamePage _) (sym c.deref-2.ensures.value) c.in_ok-pages.ensures in
    let size = (size-is c.self.inside.frames c.self.inside.lists.slots c.args.self.now c.args.list.now c.index.result.now c.self.invariant.0.ledger c.self.view_is at).1 in
    let len = part-length c.self.inside.frames c.self.inside.lists.slots c.args.self.now c.args.list.now c.index.result.now c.self.invariant.0.ledger c.self.view_is at c.args.first c.args.count c.deref.result.now c.deref-2.result.now c.deref.ensures.value same (omega (arith, size, c.requires.inside)) in
    let whole = part-whole c.self.inside.frames c.self.inside.lists.slots c.args.self.now c.args.list.now c.index.result.now c.self.invariant.0.ledger c.self.view_is at c.args.first c.args.count c.deref.result.now c.deref-2.result.now c.deref.ensures.value same in
    let free = free-is c.self.inside.frames c.self.inside.lists.slots c.self.inside.held c.args.self.now c.self.invariant.0 c.self.view_is in (
      put-in c.self.inside.frames c.hold_pages.new.frames c.reserve.new.self.slots c.insert_reserved-list.new.self.slots c.insert_reserved-list.result c.in_ok-pages.pages c.deref-2.result.now c.deref-2.ensures.value c.insert_reserved-list.ensures.updates.others c.self.inside.held (c.self.inside.held + c.args.count) g c.hold_pages.ensures.sound c.hold_pages.ensures.pages c.insert_reserved-list.ensures.was_vacant c.insert_reserved-list.ensures.updates.changed whole c.hold_pages.ensures.counted c.hold_pages.ensures.total (omega (arith, len)) (omega (arith, c.free.ensures.free, free)),
      c.self.invariant.1,
    )

pub returns-clause-puts : goal.returns-clause-puts
returns-clause-puts c =
    let e = ap (λ s. s.slots) c.reserve.ensures.rest_kept in
    let g = same-held c.self.inside.frames c.self.inside.lists.slots c.reserve.new.self.slots c.self.inside.held e c.self.invariant.0 in
    let at = ap (slot c.self.inside.lists.slots) (sym c.list.view_is) ∙ c.index.ensures in
    let size = (size-is c.self.inside.frames c.self.inside.lists.slots c.args.self.now c.args.list.now c.index.result.now c.self.invariant.0.ledger c.self.view_is at).1 in
    new-in c.self.inside.frames c.hold_pages.new.frames c.reserve.new.self.slots c.insert_reserved-list.new.self.slots c.args.self.now c.insert_reserved-list.result c.in_ok-pages.pages _ g.ledger (same-pool c.self.inside.frames c.self.inside.lists.slots c.reserve.new.self.slots c.args.self.now e c.self.view_is) c.hold_pages.ensures.pages c.insert_reserved-list.ensures.updates.changed c.insert_reserved-list.ensures.updates.others (λ n h. ap (λ b. page_at b n) c.hold_pages.ensures.bytes)
    (ap (λ b. flat_map (page_bytes b) c.in_ok-pages.pages.items) c.hold_pages.ensures.bytes
    ∙ part-bytes c.self.inside.frames c.self.inside.lists.slots c.args.self.now c.args.list.now c.index.result.now c.self.invariant.0.ledger c.self.view_is at c.args.first c.args.count c.deref.result.now c.in_ok-pages.pages.items c.deref.ensures.value c.in_ok-pages.ensures (Own 0) (omega (arith, size, c.requires.inside)))

pub returns-clause-free : goal.returns-clause-free
returns-clause-free c =
    let e = ap (λ s. s.slots) c.reserve.ensures.rest_kept in
    let g = same-held c.self.inside.frames c.self.inside.lists.slots c.reserve.new.self.slots c.self.inside.held e c.self.invariant.0 in
    let at = ap (slot c.self.inside.lists.slots) (sym c.list.view_is) ∙ c.index.ensures in
    let same = subst (AllZip IsSamePage _) (sym c.deref-2.ensures.value) c.in_ok-pages.ensures in
    let size = (size-is c.self.inside.frames c.self.inside.lists.slots c.args.self.now c.args.list.now c.index.result.now c.self.invariant.0.ledger c.self.view_is at).1 in
    let len = part-length c.self.inside.frames c.self.inside.lists.slots c.args.self.now c.args.list.now c.index.result.now c.self.invariant.0.ledger c.self.view_is at c.args.first c.args.count c.deref.result.now c.deref-2.result.now c.deref.ensures.value same (omega (arith, size, c.requires.inside)) in
    let whole = part-whole c.self.inside.frames c.self.inside.lists.slots c.args.self.now c.args.list.now c.index.result.now c.self.invariant.0.ledger c.self.view_is at c.args.first c.args.count c.deref.result.now c.deref-2.result.now c.deref.ensures.value same in
    let free = free-is c.self.inside.frames c.self.inside.lists.slots c.self.inside.held c.args.self.now c.self.invariant.0 c.self.view_is in
    let pool = put-in c.self.inside.frames c.hold_pages.new.frames c.reserve.new.self.slots c.insert_reserved-list.new.self.slots c.insert_reserved-list.result c.in_ok-pages.pages c.deref-2.result.now c.deref-2.ensures.value c.insert_reserved-list.ensures.updates.others c.self.inside.held (c.self.inside.held + c.args.count) g c.hold_pages.ensures.sound c.hold_pages.ensures.pages c.insert_reserved-list.ensures.was_vacant c.insert_reserved-list.ensures.updates.changed whole c.hold_pages.ensures.counted c.hold_pages.ensures.total (omega (arith, len)) (omega (arith, c.free.ensures.free, free)) in
    omega (arith, c.hold_pages.ensures.pages, free-is c.hold_pages.new.frames c.insert_reserved-list.new.self.slots (c.self.inside.held + c.args.count) _ pool refl, free)

pub returns-clause-no_page : goal.returns-clause-no_page
returns-clause-no_page c = done_no_page c.insert_reserved-list.result (free_pages c.args.self.now) c.args.count (omega (arith, c.free.ensures.free))
