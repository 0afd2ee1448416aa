use Rattle.node_engine.proofs.Outside.{output_cut, output_wrote}
use Rattle.node_engine.proofs.ports.NodePortsPorts.write.Goals as goal

pub returns-in-Ok : goal.returns-in-Ok
returns-in-Ok g c = output_wrote _ _ _ _ _ _ _ _ _ _ c.args.text.now c.in-Ok.ensures.all c.in-Ok.ensures.faults_unchanged

pub returns-in-Err : goal.returns-in-Err
returns-in-Err g c = output_cut _ _ _ _ _ _ _ _ _ _ c.args.text.now c.in-Err.ensures.part.0 c.in-Err.ensures.part.1 c.in-Err.ensures.part.2 c.in-Err.ensures.faults_monotone c.in-Err.ensures.faults_counted
