use Rattle.std.proofs.Common.{◌+◌, ◌*◌, ◌≤◌, ◌∙◌, ap, length, arith}
use Rattle.page_pool.specs.Store.{Store}
use Rattle.page_pool.proofs.Kept.{front_inside, seen_cut}
use Rattle.page_pool.proofs.frames.Frames.page.Goals as goal

pub page-requires : goal.page-requires
page-requires c = front_inside c.self.inside.bytes.items c.self.inside.holders.items c.args.self.now.holders c.self.inside.pages c.args.page _ _ c.self.invariant.0 (ap (λ (s : Store). s.holders) c.self.view_is) c.requires

pub returns : goal.returns
returns c =
    let inside : c.args.page * 4096 + 4096 ≤ length c.self.inside.bytes.items = front_inside c.self.inside.bytes.items c.self.inside.holders.items c.args.self.now.holders c.self.inside.pages c.args.page _ _ c.self.invariant.0 (ap (λ (s : Store). s.holders) c.self.view_is) c.requires in
    c.page.ensures ∙ seen_cut c.self.inside.bytes.items c.args.self.now _ _ c.args.page (c.args.page * 4096) c.self.view_is inside (omega arith)
