use Rattle.std.proofs.Common.{arith}
use Rattle.rdma_types.specs.Limits.{most_bytes}
use Rattle.mailbox_rules.specs.Opening.{senders_events}
use Rattle.mailbox.proofs.Made.{made_none, senders_more}
use Rattle.mailbox.proofs.making.add_senders.Goals as goal

pub loop-i-init : goal.loop-i-init
unfolding senders_events
loop-i-init c = made_none c.args.world.now

pub loop-i-preserved : goal.loop-i-preserved
loop-i-preserved c = senders_more c.args.world.now c.loop-i.world c.add_sender.new.world most_bytes c.loop-i.i _ (omega arith) c.loop-i.invariant c.in_ok-add_sender.ensures
