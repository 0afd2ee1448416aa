use Rattle.std.proofs.Common.{◌∷◌, [], subst}
use Rattle.std.proofs.lemmas.Result.{on_ok_weaker}
use Rattle.rdma_types.specs.declared.names.Name.{Name}
use Rattle.mailbox_rules.specs.Opening.{context_events, device, receiver}
use Rattle.mailbox.specs.Steps.{IsMadeOf}
use Rattle.mailbox.proofs.Made.{made_then}
use Rattle.mailbox.proofs.making.open.Goals as goal

pub returns : goal.returns
returns c = on_ok_weaker c.add_context.result (λ last.
    made_then c.args.world.now c.add_device.new.world c.add_context.new.world (device 1 ∷ []) _ c.in_ok-add_device.ensures
    (made_then c.add_device.new.world c.add_device-2.new.world c.add_context.new.world (device 2 ∷ []) _ c.in_ok-add_device-2.ensures
    (made_then c.add_device-2.new.world c.add_device-3.new.world c.add_context.new.world (device 3 ∷ []) (context_events receiver 1 512) c.in_ok-add_device-3.ensures
    (subst (λ (n : Name). IsMadeOf c.add_device-3.new.world c.add_context.new.world (context_events n 1 512)) c.receiver.ensures last)))) c.add_context.ensures
