use Rattle.node_engine.proofs.Outside.{link_sent}
use Rattle.node_engine.proofs.ports.NodePortsPorts.send.Goals as goal

pub returns-in-Ok : goal.returns-in-Ok
returns-in-Ok g c = link_sent _ _ _ _ _ _ _ _ _ _ _ (c.args.to, c.args.bytes.now) c.in-Ok.ensures.sent c.in-Ok.ensures.waiting c.in-Ok.ensures.faults_unchanged
