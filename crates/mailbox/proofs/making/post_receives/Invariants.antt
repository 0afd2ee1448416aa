use Rattle.mailbox_rules.specs.Opening.{receives_events}
use Rattle.mailbox.specs.Steps.{IsMadeOf}
use Rattle.mailbox.proofs.making.post_receives.Given as goal

abbrev pub invariant-loop-k : goal.invariant-loop-k
invariant-loop-k l = IsMadeOf l.fn.world l.world (receives_events l.i l.k)
