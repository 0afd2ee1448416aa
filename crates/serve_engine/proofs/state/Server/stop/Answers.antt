use Rattle.serve_engine.proofs.Moves.{stop_made}
use Rattle.serve_engine.proofs.state.Server.stop.Goals as goal

pub returns-in-Ok-Made : goal.returns-in-Ok-Made
returns-in-Ok-Made g c =
    let w = rw c.in-Ok-Made.field-0-is at c.in-Ok-Made.ensures in
    stop_made c.args.self.now c.publish.new.self c.args.name c.args.file w.0 c.in-Ok-Made.leaving c.publish.result _ _ w.1 w.2 c.publish.ensures
