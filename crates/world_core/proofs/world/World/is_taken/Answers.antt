-- A device has the id, or one has the address.
use Rattle.std.proofs.Common.{◌≡◌, ◌∙◌, ap, sym, is_some, true, false, ◌||◌}
use Rattle.rdma_types.specs.Lists.{some}
use Rattle.protocol.specs.WorldStep.{has_device, same_address}
use Rattle.world_core.proofs.Places.{is_some-position}
use Rattle.world_core.proofs.Worlds.{device_there}
use Rattle.world_core.proofs.world.World.is_taken.Goals as goal

pub returns-then-is_some : goal.returns-then-is_some
returns-then-is_some c =
    let w = c.args.self.now in
    let there : has_device w c.args.id ≡ true = sym (device_there w c.args.id) ∙ (ap (λ o. is_some o) (sym c.place_of.ensures) ∙ (sym c.is_some.ensures ∙ c.if-is_some.true)) in
    c.if-is_some.true ∙ sym (ap (λ b. b || some (λ d. same_address d.address c.args.address) w.devices) there)

pub returns-else-is_some : goal.returns-else-is_some
returns-else-is_some c =
    let w = c.args.self.now in
    let there : has_device w c.args.id ≡ false = sym (device_there w c.args.id) ∙ (ap (λ o. is_some o) (sym c.place_of.ensures) ∙ (sym c.is_some.ensures ∙ c.if-is_some.false)) in
    c.is_some-else-is_some.ensures ∙ (ap (λ o. is_some o) c.place_with.ensures ∙ (is_some-position (λ d. same_address d.address c.args.address) w.devices ∙ sym (ap (λ b. b || some (λ d. same_address d.address c.args.address) w.devices) there)))
