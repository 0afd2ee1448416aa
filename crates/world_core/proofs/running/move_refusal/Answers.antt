-- Each by the device's own call.
use Rattle.std.proofs.Common.{◌∙◌, ap, sym}
use Rattle.protocol.specs.Refusals.{refusal_of}
use Rattle.world_core.proofs.running.move_refusal.Goals as goal

pub returns-in-MakeContext : goal.returns-in-MakeContext
unfolding refusal_of
returns-in-MakeContext c = c.context_refusal.ensures ∙ ap (λ e. refusal_of c.args.device.now e) (sym c.in-MakeContext.is)

pub returns-in-Stop : goal.returns-in-Stop
unfolding refusal_of
returns-in-Stop c = c.stop_refusal.ensures ∙ ap (λ e. refusal_of c.args.device.now e) (sym c.in-Stop.is)
