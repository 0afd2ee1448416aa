use Rattle.std.proofs.Common.{◌∙◌, sym, ap, length}
use Rattle.std.specs.Prelude.{nat_le}
use Rattle.std.proofs.lemmas.List.{length-map}
use Rattle.protocol.specs.State.{Device}
use Rattle.device_core.specs.Parts.{held_in}
use Rattle.device_core.proofs.device.Device.is_full.Goals as goal

pub returns : goal.returns
returns c = ap (nat_le 64) (c.len.ensures.len ∙ (sym (length-map c.self.inside.contexts.entries (held_in c.self.inside.pool)) ∙ ap (λ (k : Device). length k.contexts) c.self.view_is))
