use Rattle.std.proofs.Common.{◌∙◌, sym, ap}
use Rattle.node_rules.specs.Serve.{end_of_packet}
use Rattle.node_engine.proofs.Ends.{marked, unmarked}
use Rattle.node_engine.proofs.activity.receiver.Goals as goal

pub returns-in-Some : goal.returns-in-Some
returns-in-Some c = marked c.args.device.now c.in-Ok.datagram.dest _ c.in-Some.ensures ∙ sym (ap (end_of_packet c.args.device.now) c.in-Ok.ensures.exact)

pub returns-in-None : goal.returns-in-None
returns-in-None c = unmarked c.args.device.now c.in-Ok.datagram.dest c.in-None.ensures ∙ sym (ap (end_of_packet c.args.device.now) c.in-Ok.ensures.exact)
