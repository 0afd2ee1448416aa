use Rattle.law_nodes.proofs.Bounding.{node_is_bounded, nodes_are_bounded}
use Rattle.law_nodes.proofs.nodes_change_what_they_may.Goals as goal

pub returns-clause-node : goal.returns-clause-node
returns-clause-node c = node_is_bounded

pub returns-clause-nodes : goal.returns-clause-nodes
returns-clause-nodes c = nodes_are_bounded
