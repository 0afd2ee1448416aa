use Rattle.std.proofs.Common.{ap, arith}
use Rattle.page_pool.specs.Bytes.{Bytes}
use Rattle.page_pool.proofs.Shown.{page_there, set_items}
use Rattle.page_pool.proofs.page_bytes.PageBytes.write_page.Goals as goal

pub index_mut-requires : goal.index_mut-requires
index_mut-requires c = omega (arith, c.self.inside.made.ok.0, page_there c.self.inside.made.items c.args.self.now.items c.self.invariant.0 (ap (λ (b : Bytes). b.items) c.self.view_is) c.args.page c.requires.page)

pub returns-clause-items : goal.returns-clause-items
returns-clause-items c = set_items c.self.inside.made.items c.args.self.now.items c.self.invariant.0 (ap (λ (b : Bytes). b.items) c.self.view_is) c.args.page c.args.bytes.now c.requires.page c.requires.whole
