use Rattle.packetless_machine.specs.declared.steps.MachineStep.TheVariants as steps
use Rattle.law_simulation.specs.Named.{known_bytes}
use Rattle.trace_record.proofs.Learns.{added_none, added_one, known_none, known_some}
use Rattle.trace_record.proofs.trace_steps.learning.know.Goals as goal

pub returns-then-m-eq0 : goal.returns-then-m-eq0
returns-then-m-eq0 c = added_none c.args.steps.now.items (known_bytes c.args.q.now c.args.m) (known_none c.args.q.now c.args.m c.if-m-eq0.true)

pub returns : goal.returns
returns c = added_one c.args.steps.now.items (known_bytes c.args.q.now c.args.m) c.push.new.self.items (steps.Known c.args.q.now c.args.m) (known_some c.args.q.now c.args.m c.if-m-eq0.false) c.in_ok-push.ensures.items
