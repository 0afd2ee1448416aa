use Rattle.settle_core.proofs.Noted.{transmit_shown, transmit_told}
use Rattle.settle_core.proofs.notes.transmit.Goals as goal

pub returns-clause-ok : goal.returns-clause-ok
returns-clause-ok c = transmit_shown c.transmit.result c.args.world.now c.transmit.new.self c.args.end.now c.transmit.ensures.ok c.transmit.ensures.ids

pub returns-clause-answer : goal.returns-clause-answer
returns-clause-answer c = transmit_told c.transmit.result c.args.world.now c.transmit.new.self c.args.end.now c.transmit.ensures.ok
