use Rattle.law_orders.proofs.Prepared.{opened}
use Rattle.law_orders.proofs.prepared_worlds_are_openings.Goals as goal

pub returns : goal.returns
returns c es prepared = opened c.law_holds.ensures es prepared
