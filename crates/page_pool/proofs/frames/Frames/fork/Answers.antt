use Rattle.std.proofs.Common.{◌+◌, ◌-◌, ◌*◌, ◌<◌, ◌≤◌, ◌∙◌, ap, sym, refl, length, set, sum, get_or, arith}
use Rattle.std.proofs.lemmas.List.{length-set}
use Rattle.rdma_types.specs.Memory.{put}
use Rattle.page_pool.specs.Store.{Store}
use Rattle.rdma_types.proofs.Cuts.{length-cut}
use Rattle.page_pool.proofs.Counts.{sum-set}
use Rattle.page_pool.proofs.Steps.{inside}
use Rattle.page_pool.proofs.Kept.{store, front, front_inside, read_now, made_set, holds_still, seen_cut, seen_held, idle_before}
use Rattle.page_pool.proofs.frames.Frames.fork.Goals as goal

pub page-requires : goal.page-requires
page-requires c = front_inside c.self.inside.bytes.items c.self.inside.holders.items c.args.self.now.holders c.self.inside.pages c.args.page _ _ c.self.invariant.0 (ap (λ (s : Store). s.holders) c.self.view_is) (omega (arith, c.requires.shared))

pub index_mut-requires : goal.index_mut-requires
index_mut-requires c = omega (arith, c.self.inside.holders.ok.0, front c.self.inside.holders.items c.args.self.now.holders c.self.inside.pages c.args.page (ap (λ (s : Store). s.holders) c.self.view_is) (omega (arith, c.requires.shared)))

pub overflow_sub-index_mut : goal.overflow_sub-index_mut
overflow_sub-index_mut c =
    let e = ap (λ (s : Store). s.holders) c.self.view_is in
    let l : c.args.page < length c.self.inside.holders.items = front c.self.inside.holders.items c.args.self.now.holders c.self.inside.pages c.args.page e (omega (arith, c.requires.shared)) in
    omega (arith, c.requires.shared, read_now c.self.inside.holders.items c.args.self.now.holders c.self.inside.pages c.args.page c.index_mut.result.now e l c.index_mut.ensures.value)

pub invariant_of-self : goal.invariant_of-self
invariant_of-self c =
    let e = ap (λ (s : Store). s.holders) c.self.view_is in
    let held : 0 < get_or c.args.self.now.holders c.args.page 0 = omega (arith, c.requires.shared) in
    let l : c.args.page < length c.self.inside.holders.items = front c.self.inside.holders.items c.args.self.now.holders c.self.inside.pages c.args.page e held in
    let x_is = read_now c.self.inside.holders.items c.args.self.now.holders c.self.inside.pages c.args.page c.index_mut.result.now e l c.index_mut.ensures.value in (
      made_set c.self.inside.bytes.items c.self.inside.bytes.items c.self.inside.holders.items c.self.inside.pages c.args.page _ _ _ _ _ c.self.invariant.0 refl (omega arith) (omega arith),
      holds_still _ c.self.inside.holders.items c.args.self.now.holders c.self.inside.stock.items c.self.inside.pages _ c.args.page (c.index_mut.result.now - 1) c.self.invariant.1 c.self.invariant.0.within e held (omega (arith, c.requires.shared, x_is)) (omega (arith, x_is, ap sum e, ap length e, c.self.invariant.1.within)),
    )

pub fresh-requires-clause-room : goal.fresh-requires-clause-room
fresh-requires-clause-room c =
    let e = ap (λ (s : Store). s.holders) c.self.view_is in
    let held : 0 < get_or c.args.self.now.holders c.args.page 0 = omega (arith, c.requires.shared) in
    let l : c.args.page < length c.self.inside.holders.items = front c.self.inside.holders.items c.args.self.now.holders c.self.inside.pages c.args.page e held in
    let x_is = read_now c.self.inside.holders.items c.args.self.now.holders c.self.inside.pages c.args.page c.index_mut.result.now e l c.index_mut.ensures.value in
    let anew = ap (λ (s : Store). s.holders) (seen_held c.self.inside.bytes.items c.self.inside.holders.items c.args.self.now (4096 * c.self.inside.pages) c.self.inside.pages c.args.page (c.index_mut.result.now - 1) (get_or c.args.self.now.holders c.args.page 0 - 1) c.self.view_is l (ap (λ x. x - 1) (sym x_is))) in
    let within : sum c.args.self.now.holders ≤ length c.args.self.now.holders = omega (arith, c.self.invariant.1.within, ap sum e, ap length e) in
    let total = sum-set c.args.self.now.holders c.args.page (get_or c.args.self.now.holders c.args.page 0 - 1) (inside c.args.self.now.holders c.args.page held) in
    let count = length-set c.args.self.now.holders c.args.page (get_or c.args.self.now.holders c.args.page 0 - 1) in
    omega (arith, ap sum anew, ap length anew)

pub fresh-requires-clause-whole : goal.fresh-requires-clause-whole
fresh-requires-clause-whole c = ap length c.page.ensures ∙ length-cut (c.args.page * 4096) 4096 c.self.inside.bytes.items (front_inside c.self.inside.bytes.items c.self.inside.holders.items c.args.self.now.holders c.self.inside.pages c.args.page _ _ c.self.invariant.0 (ap (λ (s : Store). s.holders) c.self.view_is) (omega (arith, c.requires.shared)))

pub returns : goal.returns
returns c =
    let e = ap (λ (s : Store). s.holders) c.self.view_is in
    let held : 0 < get_or c.args.self.now.holders c.args.page 0 = omega (arith, c.requires.shared) in
    let l : c.args.page < length c.self.inside.holders.items = front c.self.inside.holders.items c.args.self.now.holders c.self.inside.pages c.args.page e held in
    let x_is = read_now c.self.inside.holders.items c.args.self.now.holders c.self.inside.pages c.args.page c.index_mut.result.now e l c.index_mut.ensures.value in
    let anew = seen_held c.self.inside.bytes.items c.self.inside.holders.items c.args.self.now (4096 * c.self.inside.pages) c.self.inside.pages c.args.page (c.index_mut.result.now - 1) (get_or c.args.self.now.holders c.args.page 0 - 1) c.self.view_is l (ap (λ x. x - 1) (sym x_is)) in
    let there : c.args.page * 4096 + 4096 ≤ length c.self.inside.bytes.items = front_inside c.self.inside.bytes.items c.self.inside.holders.items c.args.self.now.holders c.self.inside.pages c.args.page _ _ c.self.invariant.0 e held in
    let copied = c.page.ensures ∙ seen_cut c.self.inside.bytes.items c.args.self.now _ _ c.args.page (c.args.page * 4096) c.self.view_is there (omega arith) in
    record {
      page = omega (arith, c.fresh.ensures.page, ap (λ (s : Store). length s.holders) anew, length-set c.args.self.now.holders c.args.page (get_or c.args.self.now.holders c.args.page 0 - 1));
      idle = idle_before c.args.self.now.holders c.args.page c.fresh.result c.requires.shared (ap (λ (s : Store). get_or s.holders c.fresh.result 0) (sym anew) ∙ c.fresh.ensures.idle);
      new = c.fresh.ensures.new
          ∙ (ap (λ (s : Store). store (put s.bytes (4096 * c.fresh.result) c.page.result.now) (set s.holders c.fresh.result 1)) anew
          ∙ ap (λ w. store (put c.args.self.now.bytes (4096 * c.fresh.result) w) (set (set c.args.self.now.holders c.args.page (get_or c.args.self.now.holders c.args.page 0 - 1)) c.fresh.result 1)) copied);
      sound = c.fresh.ensures.sound;
    }
