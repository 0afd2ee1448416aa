use Rattle.std.proofs.Common.{Ok, ap, sym}
use Rattle.node_rules.specs.Script.{reading_does}
use Rattle.script_lang.specs.Lines.{node_reading_of}
use Rattle.node_engine.proofs.Parts.{does_as}
use Rattle.node_engine.proofs.WholeScript.{line_unread}
use Rattle.node_engine.proofs.state.Node.read_line.Goals as goal

pub returns-in-Ok : goal.returns-in-Ok
returns-in-Ok g c = does_as (reading_does c.args.number c.args.self.now (Ok c.in-Ok.line)) (reading_does c.args.number c.args.self.now (node_reading_of c.args.line.now)) _ _ _ _ (ap (reading_does c.args.number c.args.self.now) (sym c.in-Ok.ensures.value)) c.do_line.ensures

pub returns-in-Err : goal.returns-in-Err
returns-in-Err g c = line_unread c.args.number c.args.self.now (node_reading_of c.args.line.now) c.in-Err.fault c.fault_at.result (g.P.Ports.contents c.args.ports.now) c.fault_at.ensures c.in-Err.ensures.value
