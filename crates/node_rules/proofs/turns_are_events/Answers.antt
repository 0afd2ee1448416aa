use Rattle.node_rules.proofs.Serving.{turns_are_events}
use Rattle.node_rules.proofs.turns_are_events.Goals as goal

pub returns : goal.returns
returns c = turns_are_events
