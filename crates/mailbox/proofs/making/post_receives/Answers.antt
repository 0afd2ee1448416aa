use Rattle.std.proofs.Common.{ap, arith}
use Rattle.mailbox_rules.specs.Opening.{at, receives_events}
use Rattle.mailbox.proofs.Made.{made_as, made_none, receives_more}
use Rattle.mailbox.proofs.making.post_receives.Goals as goal

pub loop-k-init : goal.loop-k-init
unfolding receives_events
loop-k-init c = made_none c.args.world.now

pub loop-k-preserved : goal.loop-k-preserved
loop-k-preserved c = receives_more c.args.world.now c.loop-k.world c.make.new.world c.make-in-loop-k.new.world c.args.i c.loop-k.k _ (omega arith) c.loop-k.invariant
    (made_as c.loop-k.world c.make.new.world _ _ (ap (λ x. at x) c.receiver_receives.ensures.event) c.in_ok-make.ensures)
    (made_as c.make.new.world c.make-in-loop-k.new.world _ _ (ap (λ x. at x) c.sender_receives.ensures.event) c.in_ok-make-2.ensures)
