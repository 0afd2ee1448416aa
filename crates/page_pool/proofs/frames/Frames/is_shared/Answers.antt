use Rattle.std.proofs.Common.{◌<◌, ap, sym, length, arith}
use Rattle.std.specs.Prelude.{nat_lt}
use Rattle.page_pool.specs.Store.{Store}
use Rattle.page_pool.proofs.Kept.{front, read_now}
use Rattle.page_pool.proofs.frames.Frames.is_shared.Goals as goal

pub index-requires : goal.index-requires
index-requires c = omega (arith, c.self.inside.holders.ok.0, front c.self.inside.holders.items c.args.self.now.holders c.self.inside.pages c.args.page (ap (λ (s : Store). s.holders) c.self.view_is) c.requires)

pub returns : goal.returns
returns c =
    let e = ap (λ (s : Store). s.holders) c.self.view_is in
    let l : c.args.page < length c.self.inside.holders.items = front c.self.inside.holders.items c.args.self.now.holders c.self.inside.pages c.args.page e c.requires in
    ap (nat_lt 1) (sym (read_now c.self.inside.holders.items c.args.self.now.holders c.self.inside.pages c.args.page c.index.result.now e l c.index.ensures))
