use Rattle.rdma_types.specs.Limits.{most_bytes}
use Rattle.mailbox_rules.specs.Opening.{senders_events}
use Rattle.mailbox.specs.Steps.{IsMadeOf}
use Rattle.mailbox.proofs.making.add_senders.Given as goal

abbrev pub invariant-loop-i : goal.invariant-loop-i
invariant-loop-i l = IsMadeOf l.fn.world l.world (senders_events most_bytes l.i)
