use Rattle.std.proofs.Common.{Err, ap}
use Rattle.node_engine.proofs.Outside.{depot_lacked, depot_removed}
use Rattle.node_engine.proofs.ports.NodePortsPorts.remove.Goals as goal

pub returns-in-Ok : goal.returns-in-Ok
returns-in-Ok g c = depot_removed _ _ _ _ _ _ _ _ _ _ c.args.name c.in-Ok.bytes.items c.in-Ok.ensures.found c.in-Ok.ensures.taken c.in-Ok.ensures.faults_unchanged

pub returns-in-Err-Missing : goal.returns-in-Err-Missing
returns-in-Err-Missing g c = depot_lacked _ _ _ _ _ _ _ _ _ _ c.args.name (c.in-Err-Missing.ensures.missing (ap Err c.in-Err-Missing.field-0-is)) c.in-Err-Missing.ensures.same (c.in-Err-Missing.ensures.absent (ap Err c.in-Err-Missing.field-0-is))
