use Rattle.std.proofs.Common.{◌∙◌}
use Rattle.mailbox.proofs.Made.{opened}
use Rattle.mailbox.proofs.mail.Mailbox.make.Goals as goal

pub returns : goal.returns
returns c = record {
  world = c.world-2.view_is ∙ opened c.in_ok-world.world c.open.new.world c.add_senders.new.world c.args.peers c.in_ok-world.ensures c.in_ok-open.ensures c.in_ok-add_senders.ensures;
  channels = c.in_ok-fresh_channels.ensures;
  owed = c.new.ensures.items;
}
