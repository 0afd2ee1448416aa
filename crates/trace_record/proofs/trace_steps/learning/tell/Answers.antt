use Rattle.trace_record.proofs.Learns.{tell_added, tells_none}
use Rattle.trace_record.proofs.trace_steps.learning.tell.Goals as goal

pub loop-told-init : goal.loop-told-init
loop-told-init c = tells_none c.args.q.now c.args.steps.now.items

pub loop-told-preserved : goal.loop-told-preserved
loop-told-preserved c = tell_added c.args.q.now c.loop-told.told c.args.steps.now.items c.loop-told.steps.items c.push.new.self.items c.loop-told.invariant c.in_ok-push.ensures.items
