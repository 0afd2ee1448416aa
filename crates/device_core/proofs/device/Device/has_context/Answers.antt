use Rattle.std.proofs.Common.{◌∙◌, ap}
use Rattle.protocol.specs.Refusals.{has_context}
use Rattle.device_core.proofs.Contexts.{found-there}
use Rattle.device_core.proofs.device.Device.has_context.Goals as goal

pub returns : goal.returns
returns c = c.contains_key.ensures ∙ (found-there c.self.inside.pool c.args.name c.self.inside.contexts.entries ∙ ap (λ k. has_context k c.args.name) c.self.view_is)
