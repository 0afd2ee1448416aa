use Rattle.std.proofs.Common.{◌∙◌}
use Rattle.page_pool.proofs.Copied.{ledger-copied, pool-copied}
use Rattle.page_pool.proofs.pool.PagePool.copy.Goals as goal

pub invariant_of-result : goal.invariant_of-result
invariant_of-result c = (ledger-copied _ _ _ _ _ c.in_ok-copy.ensures c.in_ok-clone.ensures.cases.slots c.self.invariant.0, c.in_ok-try_clone.ensures ∙ c.self.invariant.1)

pub returns : goal.returns
returns c = pool-copied _ _ _ _ c.in_ok-copy.ensures c.in_ok-clone.ensures.cases.slots ∙ c.self.view_is
