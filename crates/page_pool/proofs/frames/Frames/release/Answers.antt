use Rattle.std.proofs.Common.{◌-◌, ◌<◌, ap, sym, refl, length, sum, arith}
use Rattle.page_pool.specs.Store.{Store}
use Rattle.page_pool.specs.Ledger.{page_at}
use Rattle.page_pool.proofs.Stock.{done_unless, pushed_items, sound}
use Rattle.page_pool.proofs.Kept.{front, read_now, made_set, holds_still, holds_none, room_left, seen_held}
use Rattle.page_pool.proofs.frames.Frames.release.Goals as goal

pub index-requires : goal.index-requires
index-requires c = omega (arith, c.self.inside.holders.ok.0, front c.self.inside.holders.items c.args.self.now.holders c.self.inside.pages c.args.page (ap (λ (s : Store). s.holders) c.self.view_is) c.requires.held)

pub index_mut-requires : goal.index_mut-requires
index_mut-requires c = omega (arith, c.self.inside.holders.ok.0, front c.self.inside.holders.items c.args.self.now.holders c.self.inside.pages c.args.page (ap (λ (s : Store). s.holders) c.self.view_is) c.requires.held)

pub overflow_sub-left : goal.overflow_sub-left
overflow_sub-left c =
    let e = ap (λ (s : Store). s.holders) c.self.view_is in
    let l : c.args.page < length c.self.inside.holders.items = front c.self.inside.holders.items c.args.self.now.holders c.self.inside.pages c.args.page e c.requires.held in
    omega (arith, c.requires.held, read_now c.self.inside.holders.items c.args.self.now.holders c.self.inside.pages c.args.page c.index.result.now e l c.index.ensures)

pub unwrap-requires : goal.unwrap-requires
unwrap-requires c = done_unless c.push.result c.push.ensures.full (λ full. absurd (omega (arith, full, c.self.inside.stock.ok.0, room_left _ c.self.inside.holders.items c.args.self.now.holders c.self.inside.stock.items c.self.inside.pages _ c.args.page c.self.invariant.1 c.self.invariant.0.within (ap (λ (s : Store). s.holders) c.self.view_is) c.requires.held)))

pub invariant_of-self : goal.invariant_of-self
invariant_of-self c =
    let e = ap (λ (s : Store). s.holders) c.self.view_is in
    let l : c.args.page < length c.self.inside.holders.items = front c.self.inside.holders.items c.args.self.now.holders c.self.inside.pages c.args.page e c.requires.held in
    let x_is = read_now c.self.inside.holders.items c.args.self.now.holders c.self.inside.pages c.args.page c.index.result.now e l c.index.ensures in (
      made_set c.self.inside.bytes.items c.self.inside.bytes.items c.self.inside.holders.items c.self.inside.pages c.args.page _ _ _ _ _ c.self.invariant.0 refl (omega arith) (omega arith),
      holds_none _ c.self.inside.holders.items c.args.self.now.holders c.self.inside.stock.items c.push.new.self.items c.self.inside.pages _ _ c.args.page (c.index.result.now - 1) c.self.invariant.1 c.self.invariant.0.within e (omega (arith, x_is, c.requires.held)) (omega arith) (pushed_items c.push.result c.unwrap.result c.push.new.self.items c.self.inside.stock.items c.args.page c.unwrap.ensures c.push.ensures.items) c.push.ensures.capacity,
    )

pub invariant_of-self-else-left-eq0 : goal.invariant_of-self-else-left-eq0
invariant_of-self-else-left-eq0 c =
    let e = ap (λ (s : Store). s.holders) c.self.view_is in
    let l : c.args.page < length c.self.inside.holders.items = front c.self.inside.holders.items c.args.self.now.holders c.self.inside.pages c.args.page e c.requires.held in
    let x_is = read_now c.self.inside.holders.items c.args.self.now.holders c.self.inside.pages c.args.page c.index.result.now e l c.index.ensures in (
      made_set c.self.inside.bytes.items c.self.inside.bytes.items c.self.inside.holders.items c.self.inside.pages c.args.page _ _ _ _ _ c.self.invariant.0 refl (omega arith) (omega arith),
      holds_still _ c.self.inside.holders.items c.args.self.now.holders c.self.inside.stock.items c.self.inside.pages _ c.args.page (c.index.result.now - 1) c.self.invariant.1 c.self.invariant.0.within e c.requires.held (omega arith) (omega (arith, x_is, ap sum e, ap length e, c.self.invariant.1.within)),
    )

pub returns-then-left-eq0 : goal.returns-then-left-eq0
returns-then-left-eq0 c =
    let e = ap (λ (s : Store). s.holders) c.self.view_is in
    let l : c.args.page < length c.self.inside.holders.items = front c.self.inside.holders.items c.args.self.now.holders c.self.inside.pages c.args.page e c.requires.held in
    let x_is = read_now c.self.inside.holders.items c.args.self.now.holders c.self.inside.pages c.args.page c.index.result.now e l c.index.ensures in
    record {
      holders = ap (λ (s : Store). s.holders) (seen_held c.self.inside.bytes.items c.self.inside.holders.items c.args.self.now _ c.self.inside.pages c.args.page _ _ c.self.view_is l (ap (λ x. x - 1) (sym x_is)));
      kept = λ other held. ap (λ (s : Store). page_at s.bytes other) c.self.view_is;
      sound = sound _ _ _ _ (holds_none _ c.self.inside.holders.items c.args.self.now.holders c.self.inside.stock.items c.push.new.self.items c.self.inside.pages _ _ c.args.page (c.index.result.now - 1) c.self.invariant.1 c.self.invariant.0.within e (omega (arith, x_is, c.requires.held)) (omega arith) (pushed_items c.push.result c.unwrap.result c.push.new.self.items c.self.inside.stock.items c.args.page c.unwrap.ensures c.push.ensures.items) c.push.ensures.capacity);
    }

pub returns-else-left-eq0 : goal.returns-else-left-eq0
returns-else-left-eq0 c =
    let e = ap (λ (s : Store). s.holders) c.self.view_is in
    let l : c.args.page < length c.self.inside.holders.items = front c.self.inside.holders.items c.args.self.now.holders c.self.inside.pages c.args.page e c.requires.held in
    let x_is = read_now c.self.inside.holders.items c.args.self.now.holders c.self.inside.pages c.args.page c.index.result.now e l c.index.ensures in
    record {
      holders = ap (λ (s : Store). s.holders) (seen_held c.self.inside.bytes.items c.self.inside.holders.items c.args.self.now _ c.self.inside.pages c.args.page _ _ c.self.view_is l (ap (λ x. x - 1) (sym x_is)));
      kept = λ other held. ap (λ (s : Store). page_at s.bytes other) c.self.view_is;
      sound = sound _ _ _ _ (holds_still _ c.self.inside.holders.items c.args.self.now.holders c.self.inside.stock.items c.self.inside.pages _ c.args.page (c.index.result.now - 1) c.self.invariant.1 c.self.invariant.0.within e c.requires.held (omega arith) (omega (arith, x_is, ap sum e, ap length e, c.self.invariant.1.within)));
    }
