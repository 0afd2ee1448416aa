use Rattle.std.proofs.Common.{arith}
use Rattle.page_pool.proofs.Ledgers.{free-is, held-is, pages-is}
use Rattle.page_pool.proofs.pool.PagePool.free.Goals as goal

pub returns-clause-free : goal.returns-clause-free
returns-clause-free c = omega (arith, c.pages.ensures, free-is c.self.inside.frames c.self.inside.lists.slots c.self.inside.held c.args.self.now c.self.invariant.0 c.self.view_is)

pub returns-clause-all : goal.returns-clause-all
returns-clause-all c = omega (arith, c.pages.ensures, c.self.invariant.0.room, held-is c.self.inside.frames c.self.inside.lists.slots c.self.inside.held c.args.self.now c.self.invariant.0 c.self.view_is, pages-is c.self.inside.frames c.self.inside.lists.slots c.args.self.now c.self.view_is)
