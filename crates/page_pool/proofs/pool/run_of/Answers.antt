use Rattle.std.proofs.Common.{◌<◌, get_or}
use Rattle.page_pool.proofs.Owned.{own-held}
use Rattle.page_pool.proofs.pool.run_of.Goals as goal

pub shared_page-requires-clause-held : goal.shared_page-requires-clause-held
shared_page-requires-clause-held c = own-held (λ p. 0 < get_or c.args.frames.now.holders p 0) c.args.pages.now c.loop-page.page-index c.page-item.result c.loop-page-test.true c.page-item.is c.requires.held
