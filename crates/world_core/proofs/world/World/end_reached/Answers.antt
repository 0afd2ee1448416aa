-- The device with the address.
use Rattle.std.proofs.Common.{◌≡◌, ◌∙◌, ap, sym, is_some, None}
use Rattle.device_core.specs.Numbered.{numbered_view}
use Rattle.protocol.specs.State.{Device}
use Rattle.protocol.specs.WorldStep.{device_with, same_address}
use Rattle.world_core.specs.Reached.{view_on}
use Rattle.world_core.proofs.Places.{is_some-position, none_passes, spot}
use Rattle.world_core.proofs.Worlds.{read_device}
use Rattle.world_core.proofs.world.World.end_reached.Goals as goal

pub returns-in_err-place : goal.returns-in_err-place
returns-in_err-place c =
    let w = c.args.self.now in
    let a = c.args.at in
    let none : device_with w a ≡ None = none_passes (λ (d : Device). same_address d.address a) w.devices (sym (is_some-position (λ (d : Device). same_address d.address a) w.devices) ∙ ap (λ o. is_some o) (sym c.place_with.ensures ∙ c.in_err-place.was)) in
    c.from_residual.ensures ∙ sym (ap (λ o. view_on o c.args.number) none)

pub returns : goal.returns
returns c =
    let w = c.args.self.now in
    let s = spot (λ (d : Device). same_address d.address c.args.at) w.devices c.in_ok-place.place (sym c.place_with.ensures ∙ c.in_ok-place.was) in
    let device : c.index.result.now ≡ s.thing = read_device _ w c.in_ok-place.place c.index.result.now s.thing c.self.view_is s.here c.index.ensures in
    c.end_numbered.ensures ∙ (ap (λ d. numbered_view d c.args.number) device ∙ sym (ap (λ o. view_on o c.args.number) s.first))
