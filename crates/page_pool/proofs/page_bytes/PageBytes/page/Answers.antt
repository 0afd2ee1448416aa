use Rattle.std.proofs.Common.{ap, arith}
use Rattle.page_pool.specs.Bytes.{Bytes}
use Rattle.page_pool.proofs.Shown.{page_there, page_is}
use Rattle.page_pool.proofs.page_bytes.PageBytes.page.Goals as goal

pub index-requires : goal.index-requires
index-requires c = omega (arith, c.self.inside.made.ok.0, page_there c.self.inside.made.items c.args.self.now.items c.self.invariant.0 (ap (λ (b : Bytes). b.items) c.self.view_is) c.args.page c.requires)

pub returns : goal.returns
returns c = page_is c.self.inside.made.items c.args.self.now.items c.self.invariant.0 (ap (λ (b : Bytes). b.items) c.self.view_is) c.args.page c.index.result.now c.requires c.index.ensures
