use Rattle.serve_engine.proofs.Restores.{claim_finished}
use Rattle.serve_engine.proofs.state.Server.restore_claimed.Goals as goal

pub returns-in-Made : goal.returns-in-Made
returns-in-Made g c = claim_finished c.args.self.now c.finish.new.self c.args.bytes.now c.in-Made.coming c.finish.result _ _ c.in-Made.ensures c.finish.ensures
