use Rattle.std.proofs.Common.{◌≡◌, replicate}
use Rattle.mailbox_rules.specs.State.{fresh_channel}
use Rattle.mailbox.proofs.making.fresh_channels.Given as goal

abbrev pub invariant-loop-made : goal.invariant-loop-made
invariant-loop-made l = l.channels.items ≡ replicate l._made fresh_channel
