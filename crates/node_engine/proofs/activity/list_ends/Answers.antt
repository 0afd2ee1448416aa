use Rattle.node_engine.proofs.Ends.{names_on_ok}
use Rattle.node_engine.proofs.activity.list_ends.Goals as goal

pub returns : goal.returns
returns c = names_on_ok c.args.device.now c.clear.new.self.items c.push_ends.new.live.items c.push_ends.result c.clear.ensures.items c.push_ends.ensures
