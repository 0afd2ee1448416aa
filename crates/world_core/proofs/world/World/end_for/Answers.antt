-- The device at the place is the one with the address.
use Rattle.std.proofs.Common.{◌≡◌, ◌∙◌, ap, sym, refl, Some, None}
use Rattle.std.specs.List.{position}
use Rattle.protocol.specs.Bytes.{number_at}
use Rattle.protocol.specs.State.{Flight}
use Rattle.protocol.specs.WorldStep.{same_address}
use Rattle.world_core.proofs.Places.{spot}
use Rattle.world_core.proofs.Networks.{found_nowhere, found_there}
use Rattle.world_core.proofs.Worlds.{read_device}
use Rattle.world_core.proofs.world.World.end_for.Goals as goal

pub returns-in-Some : goal.returns-in-Some
returns-in-Some c =
    let w = c.args.self.now in
    let f = c.args.flight.now in
    let at : position (λ x. same_address x.address f.to) w.devices ≡ Some c.in-Some.place = sym c.requires ∙ c.in-Some.is in
    let s = spot (λ x. same_address x.address f.to) w.devices c.in-Some.place at in
    let device : c.index.result.now ≡ s.thing = read_device _ w c.in-Some.place c.index.result.now s.thing c.self.view_is s.here c.index.ensures in
    found_there w f c.in-Some.place c.index.result.now c.destination-number.result c.find_end.result at (s.here ∙ ap (λ x. Some x) (sym device))
    (c.destination-number.ensures ∙ ap (number_at 5 3) (c.as_slice.ensures ∙ ap (λ (x : Flight). x.bytes) c.flight.view_is)) c.find_end.ensures

pub returns-in-None : goal.returns-in-None
returns-in-None c = found_nowhere c.args.self.now c.args.flight.now None (sym c.requires ∙ c.in-None.is) refl
