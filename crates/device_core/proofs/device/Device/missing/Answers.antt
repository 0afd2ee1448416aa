-- Where no context has the name, a husk has it or nothing does.
use Rattle.std.proofs.Common.{◌≡◌, ◌∙◌, sym, ap, true, false}
use Rattle.protocol.specs.Refusals.{has_husk}
use Rattle.device_core.proofs.HuskNames.{husk-there}
use Rattle.device_core.proofs.Dones.{within-husk, within-nothing}
use Rattle.device_core.proofs.device.Device.missing.Goals as goal

pub returns-then-contains_key : goal.returns-then-contains_key
returns-then-contains_key c causes =
    let there : has_husk c.args.self.now c.args.name ≡ true = ap (λ d. has_husk d c.args.name) (sym c.self.view_is) ∙ (sym (husk-there c.args.name c.self.inside.husks.entries) ∙ (sym c.contains_key.ensures ∙ c.if-contains_key.true)) in
    within-husk c.args.self.now c.args.name causes c.requires there

pub returns-else-contains_key : goal.returns-else-contains_key
returns-else-contains_key c causes =
    let there : has_husk c.args.self.now c.args.name ≡ false = ap (λ d. has_husk d c.args.name) (sym c.self.view_is) ∙ (sym (husk-there c.args.name c.self.inside.husks.entries) ∙ (sym c.contains_key.ensures ∙ c.if-contains_key.false)) in
    within-nothing c.args.self.now c.args.name causes c.requires there
