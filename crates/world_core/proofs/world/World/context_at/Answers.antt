-- The device with the id.
use Rattle.std.proofs.Common.{◌≡◌, ◌∙◌, ap, sym}
use Rattle.protocol.specs.State.{device_at, no_device}
use Rattle.protocol.specs.Readers.{context_name}
use Rattle.world_core.proofs.Places.{at-absent}
use Rattle.world_core.proofs.Worlds.{device_stays, no_device_there, read_device}
use Rattle.world_core.proofs.world.World.context_at.Goals as goal

pub returns-in_err-place : goal.returns-in_err-place
returns-in_err-place c =
    let w = c.args.self.now in
    let none : device_at w c.args.device ≡ no_device = at-absent (λ d. d.id) no_device c.args.device w.devices (no_device_there w c.args.device (sym c.place_of.ensures ∙ c.in_err-place.was)) in
    c.from_residual.ensures ∙ sym (ap (λ d. context_name d c.args.i) none)

pub returns : goal.returns
returns c =
    let w = c.args.self.now in
    let device : c.index.result.now ≡ device_at w c.args.device = read_device _ w c.in_ok-place.place c.index.result.now (device_at w c.args.device) c.self.view_is (device_stays w c.args.device c.in_ok-place.place (sym c.place_of.ensures ∙ c.in_ok-place.was)).here c.index.ensures in
    c.context_at.ensures ∙ ap (λ d. context_name d c.args.i) device
