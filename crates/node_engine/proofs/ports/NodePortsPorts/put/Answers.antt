use Rattle.node_engine.proofs.Outside.{depot_put}
use Rattle.node_engine.proofs.ports.NodePortsPorts.put.Goals as goal

pub returns-in-Ok : goal.returns-in-Ok
returns-in-Ok g c = depot_put _ _ _ _ _ _ _ _ _ _ c.args.name c.args.bytes.now c.in-Ok.ensures.put c.in-Ok.ensures.faults_unchanged
