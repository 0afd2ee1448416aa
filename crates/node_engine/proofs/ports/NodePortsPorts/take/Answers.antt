use Rattle.node_engine.proofs.Outside.{link_took}
use Rattle.node_engine.proofs.ports.NodePortsPorts.take.Goals as goal

pub returns-in-Ok-clause-taken : goal.returns-in-Ok-clause-taken
returns-in-Ok-clause-taken g c = link_took _ _ _ _ _ _ _ _ _ _ _ _ c.in-Ok.ensures.taken c.in-Ok.ensures.sent c.in-Ok.ensures.faults_unchanged
