use Rattle.std.proofs.Common.{ap, arith}
use Rattle.page_pool.specs.Bytes.{Bytes}
use Rattle.page_pool.proofs.Stock.{done_unless, pushed_items as pushed}
use Rattle.page_pool.proofs.Shown.{all_bytes, pushed_items}
use Rattle.page_pool.proofs.page_bytes.PageBytes.push.Goals as goal

pub unwrap-requires : goal.unwrap-requires
unwrap-requires c =
    let room = ap (λ (b : Bytes). b.room) c.self.view_is in
    let count = all_bytes c.self.inside.made.items c.args.self.now.items c.self.invariant.0 (ap (λ (b : Bytes). b.items) c.self.view_is) in
    done_unless c.push.result c.push.ensures.full (λ full. absurd (omega (arith, full, c.self.inside.made.ok.0, c.requires.room, c.self.invariant.1)))

pub returns-clause-items : goal.returns-clause-items
returns-clause-items c =
    let is = pushed c.push.result c.unwrap.result c.push.new.self.items c.self.inside.made.items c.args.bytes.now c.unwrap.ensures c.push.ensures.items in
    rw is (pushed_items c.self.inside.made.items c.args.self.now.items c.self.invariant.0 (ap (λ (b : Bytes). b.items) c.self.view_is) c.args.bytes.now)
