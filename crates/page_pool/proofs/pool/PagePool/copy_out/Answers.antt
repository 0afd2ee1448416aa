use Rattle.std.proofs.Common.{◌≡◌, ◌+◌, ◌-◌, ◌*◌, ◌/◌, ◌≤◌, ◌∙◌, length, ap, sym, refl, arith, inl, inr}
use Rattle.page_pool.specs.Ledger.{slot}
use Rattle.page_pool.specs.Pool.{bytes_in}
use Rattle.page_pool.specs.declared.page.Page.TheVariants.{Own}
use Rattle.page_pool.proofs.Writes.{AreAt, piece-fits, row-bytes, row-held, row-whole, row-within, run-more}
use Rattle.page_pool.proofs.pool.PagePool.copy_out.Goals as goal
use Rattle.page_pool.proofs.pool.PagePool.copy_out.Goals.{then-first-eq0, else-first-eq0}

pub slice_bounds-pages-end : goal.slice_bounds-pages-end
slice_bounds-pages-end c =
    let at = ap (slot c.self.inside.lists.slots) (sym c.list.view_is) ∙ c.index.ensures in
    let round : AreAt c.args.first c.if-first-eq0.whole = elim c.if-first-eq0.branch [ then-first-eq0 w ↦ inr w.if-first-eq0.true | else-first-eq0 w ↦ inl w.whole-is ] in
    let most : c.if-first-eq0.whole * 4096 ≤ c.args.count = elim c.if-first-eq0.branch [ then-first-eq0 w ↦ omega (arith, w.whole-is) | else-first-eq0 w ↦ omega (arith, w.whole-is) ] in
    let n : c.args.first / 4096 + c.if-first-eq0.whole - c.args.first / 4096 ≡ c.if-first-eq0.whole = omega arith in
    omega (arith, ap length c.deref.ensures.value, row-within c.self.inside.frames c.self.inside.lists.slots c.args.self.now c.args.list.now c.args.first c.if-first-eq0.whole _ c.index.result.now c.deref.result.now c.self.invariant.0.ledger c.self.view_is at c.deref.ensures.value n c.args.count round most c.requires.inside)

pub run_of-requires-clause-held : goal.run_of-requires-clause-held
run_of-requires-clause-held c =
    let at = ap (slot c.self.inside.lists.slots) (sym c.list.view_is) ∙ c.index.ensures in
    let n : c.args.first / 4096 + c.if-first-eq0.whole - c.args.first / 4096 ≡ c.if-first-eq0.whole = omega arith in
    row-held c.self.inside.frames c.self.inside.lists.slots c.args.self.now c.args.list.now c.args.first c.if-first-eq0.whole _ c.index.result.now c.deref.result.now c.self.invariant.0.ledger c.self.view_is at c.deref.ensures.value n

pub run_of-requires-clause-whole : goal.run_of-requires-clause-whole
run_of-requires-clause-whole c =
    let at = ap (slot c.self.inside.lists.slots) (sym c.list.view_is) ∙ c.index.ensures in
    let n : c.args.first / 4096 + c.if-first-eq0.whole - c.args.first / 4096 ≡ c.if-first-eq0.whole = omega arith in
    row-whole c.self.inside.frames c.self.inside.lists.slots c.args.self.now c.args.list.now c.args.first c.if-first-eq0.whole _ c.index.result.now c.deref.result.now c.self.invariant.0.ledger c.self.view_is at c.deref.ensures.value n

pub loop-done-init : goal.loop-done-init
loop-done-init c =
    let at = ap (slot c.self.inside.lists.slots) (sym c.list.view_is) ∙ c.index.ensures in
    let round : AreAt c.args.first c.if-first-eq0.whole = elim c.if-first-eq0.branch [ then-first-eq0 w ↦ inr w.if-first-eq0.true | else-first-eq0 w ↦ inl w.whole-is ] in
    let most : c.if-first-eq0.whole * 4096 ≤ c.args.count = elim c.if-first-eq0.branch [ then-first-eq0 w ↦ omega (arith, w.whole-is) | else-first-eq0 w ↦ omega (arith, w.whole-is) ] in
    let n : c.args.first / 4096 + c.if-first-eq0.whole - c.args.first / 4096 ≡ c.if-first-eq0.whole = omega arith in
    let inside = row-within c.self.inside.frames c.self.inside.lists.slots c.args.self.now c.args.list.now c.args.first c.if-first-eq0.whole _ c.index.result.now c.deref.result.now c.self.invariant.0.ledger c.self.view_is at c.deref.ensures.value n c.args.count round most c.requires.inside in
    (most, c.in_ok-run.ensures ∙ row-bytes c.self.inside.frames c.self.inside.lists.slots c.args.self.now c.args.list.now c.args.first c.if-first-eq0.whole _ c.index.result.now c.deref.result.now c.self.invariant.0.ledger c.self.view_is at c.deref.ensures.value n (Own 0) round inside)

pub loop-done-preserved : goal.loop-done-preserved
loop-done-preserved c =
    let fits = piece-fits c.args.self.now c.args.list.now (c.args.first + c.loop-done.done) c.size-size.result c.size-size.ensures.size c.size-size.ensures.pages (omega arith) in
    (omega (arith, c.min-taken.ensures), run-more (bytes_in c.args.self.now c.args.list.now) c.piece-piece.result.now _ c.loop-done.run c.append.new.self c.args.first c.loop-done.done c.min-taken.result _ c.loop-done.invariant.1 c.piece-piece.ensures.bytes (omega (arith, c.min-taken.ensures, c.piece-piece.ensures.length)) fits refl c.in_ok-append.ensures.ok)
