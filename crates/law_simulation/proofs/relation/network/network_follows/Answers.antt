use Rattle.law_simulation.proofs.relation.EventNetwork.{lose_follows, wire_follows}
use Rattle.law_simulation.proofs.relation.network.network_follows.Goals as goal

pub returns-clause-lose : goal.returns-clause-lose
returns-clause-lose c = λ k w m r s. lose_follows w m k s

pub returns-clause-wire : goal.returns-clause-wire
returns-clause-wire c = λ k w m r s. wire_follows w m k s
