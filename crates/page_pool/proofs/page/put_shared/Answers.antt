use Rattle.std.proofs.Common.{ap, subst}
use Rattle.std.specs.Arc.{arc_value}
use Rattle.page_pool.specs.Ledger.{IsWholePage}
use Rattle.page_pool.proofs.Owned.{even-put}
use Rattle.page_pool.proofs.page.put_shared.Goals as goal

pub returns-in-Shared-clause-whole : goal.returns-in-Shared-clause-whole
returns-in-Shared-clause-whole c = even-put c.put_alone.result (arc_value c.put_alone.new.page) (arc_value c.in-Shared.shared) c.args.bytes.now c.args.at (subst IsWholePage c.in-Shared.is c.requires.whole) c.requires.room c.put_alone.ensures.done (λ f. ap arc_value (c.put_alone.ensures.left f))
