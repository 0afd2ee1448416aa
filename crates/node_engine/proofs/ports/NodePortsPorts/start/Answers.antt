use Rattle.node_engine.proofs.Outside.{link_started}
use Rattle.node_engine.proofs.ports.NodePortsPorts.start.Goals as goal

pub returns-in-Ok : goal.returns-in-Ok
returns-in-Ok g c = link_started _ _ _ _ _ _ _ _ _ _ _ c.args.own c.in-Ok.ensures.waiting c.in-Ok.ensures.sent c.in-Ok.ensures.faults_unchanged
