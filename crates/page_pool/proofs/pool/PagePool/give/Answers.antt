use Rattle.std.proofs.Common.{◌-◌, ◌∙◌, arith, ap, sym, length, refl}
use Rattle.page_pool.specs.Ledger.{slot}
use Rattle.page_pool.proofs.Ledgers.{size-is, list-within, free-is, taken-out, gone-out, held-part}
use Rattle.page_pool.proofs.pool.PagePool.give.Goals as goal

pub give_pages-requires-clause-held : goal.give_pages-requires-clause-held
give_pages-requires-clause-held c = λ n. held-part c.self.inside.frames c.self.inside.lists.slots c.list.inside.list c.remove-pages.result c.deref.result.now n c.self.invariant.0.ledger c.remove-pages.ensures.value c.deref.ensures.value

pub overflow_cast-self : goal.overflow_cast-self
overflow_cast-self c = omega (arith, c.len.ensures, c.remove-pages.result.ok.0, c.self.invariant.0.ledger.sound.few, c.self.invariant.0.room, list-within c.self.inside.frames c.self.inside.lists.slots c.self.inside.held c.list.inside.list c.remove-pages.result c.self.invariant.0 c.remove-pages.ensures.value)

pub overflow_sub-self : goal.overflow_sub-self
overflow_sub-self c = omega (arith, c.len.ensures, c.remove-pages.result.ok.0, list-within c.self.inside.frames c.self.inside.lists.slots c.self.inside.held c.list.inside.list c.remove-pages.result c.self.invariant.0 c.remove-pages.ensures.value)

pub invariant_of-self : goal.invariant_of-self
invariant_of-self c =
    let within = list-within c.self.inside.frames c.self.inside.lists.slots c.self.inside.held c.list.inside.list c.remove-pages.result c.self.invariant.0 c.remove-pages.ensures.value in (
      taken-out c.self.inside.frames c.give_pages.new.frames c.self.inside.lists.slots c.remove-pages.new.self.slots c.list.inside.list c.remove-pages.result c.deref.result.now c.deref.ensures.value c.remove-pages.ensures.updates.others c.self.inside.held (c.self.inside.held - c.len.result) c.self.invariant.0 c.give_pages.ensures.sound c.give_pages.ensures.pages c.remove-pages.ensures.value c.remove-pages.ensures.updates.changed c.give_pages.ensures.counted c.give_pages.ensures.total (omega (arith, within, c.len.ensures, c.remove-pages.result.ok.0, ap length c.deref.ensures.value)),
      c.self.invariant.1,
    )

pub returns-clause-puts : goal.returns-clause-puts
returns-clause-puts c =
    let within = list-within c.self.inside.frames c.self.inside.lists.slots c.self.inside.held c.list.inside.list c.remove-pages.result c.self.invariant.0 c.remove-pages.ensures.value in
    let pool = taken-out c.self.inside.frames c.give_pages.new.frames c.self.inside.lists.slots c.remove-pages.new.self.slots c.list.inside.list c.remove-pages.result c.deref.result.now c.deref.ensures.value c.remove-pages.ensures.updates.others c.self.inside.held (c.self.inside.held - c.len.result) c.self.invariant.0 c.give_pages.ensures.sound c.give_pages.ensures.pages c.remove-pages.ensures.value c.remove-pages.ensures.updates.changed c.give_pages.ensures.counted c.give_pages.ensures.total (omega (arith, within, c.len.ensures, c.remove-pages.result.ok.0, ap length c.deref.ensures.value)) in
    rw (← c.list.view_is) (gone-out c.self.inside.frames c.give_pages.new.frames c.self.inside.lists.slots c.remove-pages.new.self.slots c.args.self.now c.list.inside.list pool.ledger c.self.view_is c.give_pages.ensures.pages c.give_pages.ensures.kept c.remove-pages.ensures.updates.changed c.remove-pages.ensures.updates.others)

pub returns-clause-free : goal.returns-clause-free
returns-clause-free c =
    let at = ap (slot c.self.inside.lists.slots) (sym c.list.view_is) ∙ c.remove-pages.ensures.value in
    let within = list-within c.self.inside.frames c.self.inside.lists.slots c.self.inside.held c.list.inside.list c.remove-pages.result c.self.invariant.0 c.remove-pages.ensures.value in
    let pool = taken-out c.self.inside.frames c.give_pages.new.frames c.self.inside.lists.slots c.remove-pages.new.self.slots c.list.inside.list c.remove-pages.result c.deref.result.now c.deref.ensures.value c.remove-pages.ensures.updates.others c.self.inside.held (c.self.inside.held - c.len.result) c.self.invariant.0 c.give_pages.ensures.sound c.give_pages.ensures.pages c.remove-pages.ensures.value c.remove-pages.ensures.updates.changed c.give_pages.ensures.counted c.give_pages.ensures.total (omega (arith, within, c.len.ensures, c.remove-pages.result.ok.0, ap length c.deref.ensures.value)) in
    omega (arith, within, c.len.ensures, c.remove-pages.result.ok.0, c.give_pages.ensures.pages, ap length c.deref.ensures.value, free-is c.give_pages.new.frames c.remove-pages.new.self.slots (c.self.inside.held - c.len.result) _ pool refl, free-is c.self.inside.frames c.self.inside.lists.slots c.self.inside.held c.args.self.now c.self.invariant.0 c.self.view_is, (size-is c.self.inside.frames c.self.inside.lists.slots c.args.self.now c.args.list c.remove-pages.result c.self.invariant.0.ledger c.self.view_is at).1)
