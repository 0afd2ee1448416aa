use Rattle.node_engine.proofs.Outside.{clock_told}
use Rattle.node_engine.proofs.ports.NodePortsPorts.now.Goals as goal

pub returns : goal.returns
returns g c = clock_told _ _ _ _ _ _ _ _ _ _ c.now.ensures
