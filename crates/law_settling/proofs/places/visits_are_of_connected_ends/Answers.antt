use Rattle.law_settling.proofs.places.Linked.{counts_linked}
use Rattle.law_settling.proofs.places.Rounding.{rounds_linked}
use Rattle.law_settling.proofs.places.Visiting.{visits_linked}
use Rattle.law_settling.proofs.places.visits_are_of_connected_ends.Goals as goal

pub returns-clause-visits : goal.returns-clause-visits
returns-clause-visits c = visits_linked

pub returns-clause-round : goal.returns-clause-round
returns-clause-round c = rounds_linked

pub returns-clause-counts : goal.returns-clause-counts
returns-clause-counts c = counts_linked
