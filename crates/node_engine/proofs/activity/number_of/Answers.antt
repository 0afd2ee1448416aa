use Rattle.node_engine.proofs.Ends.{named_number, no_number}
use Rattle.node_engine.proofs.activity.number_of.Goals as goal

pub returns-in-Some : goal.returns-in-Some
returns-in-Some c = named_number c.args.device.now c.args.end.now c.in-Some.view c.in-Some.ensures.view

pub returns-in-None : goal.returns-in-None
returns-in-None c = no_number c.args.device.now c.args.end.now c.in-None.ensures.view
