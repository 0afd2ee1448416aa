use Rattle.transport.proofs.Near.{none_where_below, unwrap_near-found}
use Rattle.transport.proofs.psn_math.unwrap_near.Goals as goal

pub returns-clause-none : goal.returns-clause-none
returns-clause-none c =
    none_where_below _ _ _ _ _ c.checked_sub.result c.requires.psn_fits c.wire_of-lowest.ensures.spelled c.from.ensures c.checked_sub.ensures

pub returns-clause-rule : goal.returns-clause-rule
returns-clause-rule c =
    unwrap_near-found _ _ _ _ _ c.checked_sub.result c.requires.psn_fits c.wire_of-lowest.ensures.spelled c.from.ensures c.checked_sub.ensures
