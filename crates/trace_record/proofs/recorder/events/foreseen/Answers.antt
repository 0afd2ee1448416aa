use Rattle.trace_record.proofs.Happened.{foreseen_else}
use Rattle.trace_record.proofs.recorder.events.foreseen.Goals as goal

pub returns-in_default-clause-named : goal.returns-in_default-clause-named
returns-in_default-clause-named c = foreseen_else c.args.world.now c.args.machine.now c.args.event.now c.in_default.not-Deliver
