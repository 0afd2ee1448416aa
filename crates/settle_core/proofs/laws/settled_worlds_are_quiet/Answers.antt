use Rattle.settle_core.proofs.Quieting.{quieted}
use Rattle.settle_core.proofs.laws.settled_worlds_are_quiet.Goals as goal

pub returns : goal.returns
returns c = quieted c.settling_leaves.ensures c.settling_is_named.ensures.events c.settling_is_named.ensures.follows
