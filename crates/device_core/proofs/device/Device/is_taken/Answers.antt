use Rattle.std.proofs.Common.{◌≡◌, ◌∙◌, sym, ap, true, false}
use Rattle.std.specs.Prelude.{◌||◌}
use Rattle.protocol.specs.Refusals.{has_context, has_husk}
use Rattle.device_core.proofs.Contexts.{found-there}
use Rattle.device_core.proofs.HuskNames.{husk-there}
use Rattle.device_core.proofs.device.Device.is_taken.Goals as goal

pub returns-then-contains_key : goal.returns-then-contains_key
returns-then-contains_key c =
    let lives : has_context c.args.self.now c.args.name ≡ true = ap (λ k. has_context k c.args.name) (sym c.self.view_is) ∙ (sym (found-there c.self.inside.pool c.args.name c.self.inside.contexts.entries) ∙ (sym c.contains_key.ensures ∙ c.if-contains_key.true)) in
    c.if-contains_key.true ∙ sym (ap (λ b. b || has_husk c.args.self.now c.args.name) lives)

pub returns-else-contains_key : goal.returns-else-contains_key
returns-else-contains_key c =
    let gone : has_context c.args.self.now c.args.name ≡ false = ap (λ k. has_context k c.args.name) (sym c.self.view_is) ∙ (sym (found-there c.self.inside.pool c.args.name c.self.inside.contexts.entries) ∙ (sym c.contains_key.ensures ∙ c.if-contains_key.false)) in
    let stays = ap (λ k. has_husk k c.args.name) (sym c.self.view_is) ∙ (sym (husk-there c.args.name c.self.inside.husks.entries) ∙ sym c.contains_key-else-contains_key.ensures) in
    sym stays ∙ sym (ap (λ b. b || has_husk c.args.self.now c.args.name) gone)
