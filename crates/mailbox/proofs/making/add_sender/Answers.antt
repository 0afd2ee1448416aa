use Rattle.std.proofs.Common.{◌++◌, subst}
use Rattle.std.proofs.lemmas.Result.{on_ok_weaker}
use Rattle.rdma_types.specs.Limits.{most_bytes}
use Rattle.rdma_types.specs.declared.names.Name.{Name}
use Rattle.mailbox_rules.specs.Opening.{context_events, depth, joining_events, receives_events, sender, sender_events}
use Rattle.mailbox.specs.Steps.{IsMadeOf}
use Rattle.mailbox.proofs.Made.{made_then}
use Rattle.mailbox.proofs.making.add_sender.Goals as goal

pub returns : goal.returns
unfolding sender_events
returns c = on_ok_weaker c.post_receives.result (λ last.
    made_then c.args.world.now c.add_context.new.world c.post_receives.new.world (context_events (sender c.args.i) 2 64) _
    (subst (λ (n : Name). IsMadeOf c.args.world.now c.add_context.new.world (context_events n 2 64)) c.sender.ensures c.in_ok-add_context.ensures)
    (made_then c.add_context.new.world c.join.new.world c.post_receives.new.world (joining_events most_bytes c.args.i) (receives_events c.args.i depth) c.in_ok-join.ensures last)) c.post_receives.ensures
