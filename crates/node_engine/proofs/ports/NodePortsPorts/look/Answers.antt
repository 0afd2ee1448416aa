use Rattle.std.proofs.Common.{None, Some, Err, ap}
use Rattle.node_engine.proofs.Outside.{depot_looked}
use Rattle.node_engine.proofs.ports.NodePortsPorts.look.Goals as goal

pub returns-in-Ok : goal.returns-in-Ok
returns-in-Ok g c = depot_looked _ _ _ _ _ _ _ _ _ _ c.args.name (Some c.in-Ok.bytes.items) c.in-Ok.ensures.found c.in-Ok.ensures.same c.in-Ok.ensures.faults_unchanged

pub returns-in-Err-Missing : goal.returns-in-Err-Missing
returns-in-Err-Missing g c = depot_looked _ _ _ _ _ _ _ _ _ _ c.args.name None (c.in-Err-Missing.ensures.missing (ap Err c.in-Err-Missing.field-0-is)) c.in-Err-Missing.ensures.same (c.in-Err-Missing.ensures.absent (ap Err c.in-Err-Missing.field-0-is))
