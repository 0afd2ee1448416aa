use Rattle.std.proofs.Common.{◌∙◌, ap, sym}
use Rattle.page_pool.specs.Ledger.{page_at, page_bytes}
use Rattle.page_pool.proofs.pool.page_of.Goals as goal

pub returns-in-Own : goal.returns-in-Own
unfolding page_at
returns-in-Own c = c.page.ensures ∙ ap (page_bytes c.args.frames.now.bytes) (sym c.in-Own.is)
