use Rattle.std.proofs.Common.{◌<◌, ◌+◌, ap, sym, refl, length, arith}
use Rattle.page_pool.specs.Store.{Store}
use Rattle.page_pool.proofs.Counts.{get_or-le-sum}
use Rattle.page_pool.proofs.Steps.{inside}
use Rattle.page_pool.proofs.Stock.{sound}
use Rattle.page_pool.proofs.Kept.{front, read_now, made_set, holds_still, seen_held}
use Rattle.page_pool.proofs.frames.Frames.hold.Goals as goal

pub index_mut-requires : goal.index_mut-requires
index_mut-requires c = omega (arith, c.self.inside.holders.ok.0, front c.self.inside.holders.items c.args.self.now.holders c.self.inside.pages c.args.page (ap (λ (s : Store). s.holders) c.self.view_is) c.requires.held)

pub overflow_add-index_mut : goal.overflow_add-index_mut
overflow_add-index_mut c =
    let e = ap (λ (s : Store). s.holders) c.self.view_is in
    let l : c.args.page < length c.self.inside.holders.items = front c.self.inside.holders.items c.args.self.now.holders c.self.inside.pages c.args.page e c.requires.held in
    omega (arith, c.requires.room, c.self.invariant.1.few, ap length e, get_or-le-sum c.args.self.now.holders c.args.page (inside c.args.self.now.holders c.args.page c.requires.held), read_now c.self.inside.holders.items c.args.self.now.holders c.self.inside.pages c.args.page c.index_mut.result.now e l c.index_mut.ensures.value)

pub invariant_of-self : goal.invariant_of-self
invariant_of-self c =
    let e = ap (λ (s : Store). s.holders) c.self.view_is in
    let l : c.args.page < length c.self.inside.holders.items = front c.self.inside.holders.items c.args.self.now.holders c.self.inside.pages c.args.page e c.requires.held in
    let x_is = read_now c.self.inside.holders.items c.args.self.now.holders c.self.inside.pages c.args.page c.index_mut.result.now e l c.index_mut.ensures.value in (
      made_set c.self.inside.bytes.items c.self.inside.bytes.items c.self.inside.holders.items c.self.inside.pages c.args.page _ _ _ _ _ c.self.invariant.0 refl (omega arith) (omega arith),
      holds_still _ c.self.inside.holders.items c.args.self.now.holders c.self.inside.stock.items c.self.inside.pages _ c.args.page (c.index_mut.result.now + 1) c.self.invariant.1 c.self.invariant.0.within e c.requires.held (omega arith) (omega (arith, c.requires.room, x_is)),
    )

pub returns-clause-new : goal.returns-clause-new
returns-clause-new c =
    let e = ap (λ (s : Store). s.holders) c.self.view_is in
    let l : c.args.page < length c.self.inside.holders.items = front c.self.inside.holders.items c.args.self.now.holders c.self.inside.pages c.args.page e c.requires.held in
    seen_held c.self.inside.bytes.items c.self.inside.holders.items c.args.self.now _ c.self.inside.pages c.args.page _ _ c.self.view_is l (ap (λ x. x + 1) (sym (read_now c.self.inside.holders.items c.args.self.now.holders c.self.inside.pages c.args.page c.index_mut.result.now e l c.index_mut.ensures.value)))

pub returns-clause-sound : goal.returns-clause-sound
returns-clause-sound c =
    let e = ap (λ (s : Store). s.holders) c.self.view_is in
    let l : c.args.page < length c.self.inside.holders.items = front c.self.inside.holders.items c.args.self.now.holders c.self.inside.pages c.args.page e c.requires.held in
    let x_is = read_now c.self.inside.holders.items c.args.self.now.holders c.self.inside.pages c.args.page c.index_mut.result.now e l c.index_mut.ensures.value in
    sound _ _ _ _ (holds_still _ c.self.inside.holders.items c.args.self.now.holders c.self.inside.stock.items c.self.inside.pages _ c.args.page (c.index_mut.result.now + 1) c.self.invariant.1 c.self.invariant.0.within e c.requires.held (omega arith) (omega (arith, c.requires.room, x_is)))
