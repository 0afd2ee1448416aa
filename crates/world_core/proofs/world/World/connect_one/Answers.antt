-- The device at the place is another.
use Rattle.std.proofs.Common.{◌≡◌, ◌<◌, sym, subst, slice_get, Some, refl, length, rules}
use Rattle.std.proofs.lemmas.Option.{slice_get_read}
use Rattle.protocol.specs.DeviceStep.{device_step}
use Rattle.protocol.specs.State.{World}
use Rattle.protocol.specs.declared.events.Event.TheVariants as event
use Rattle.world_core.specs.Places.{HaveOwnIds}
use Rattle.world_core.proofs.Stepping.{joined_makes, parts_after}
use Rattle.world_core.proofs.world.World.connect_one.Goals as goal

pub invariant_of-self : goal.invariant_of-self
invariant_of-self c =
    let ds = c.self.inside.devices.items in
    let lt : c.args.here.now.place < length ds = subst (λ (w : World). c.args.here.now.place < length w.devices) (sym c.self.view_is) c.requires.here in
    let here : slice_get ds c.args.here.now.place ≡ Some c.index_mut.result.now = slice_get_read ds (length ds) c.args.here.now.place c.index_mut.result.now refl lt c.index_mut.ensures.value in
    let step : device_step c.index_mut.result.now (event.Connect c.args.end.now c.args.there.now.number c.args.there.now.address c.args.terms.now) ≡ record { device = c.step.new.self; outcome = c.unwrap-outcome.result } = search rules in
    parts_after _ _ _ _ ds c.self.inside.stops.carried c.args.here.now.place c.index_mut.result.now c.step.new.self
    (event.Connect c.args.end.now c.args.there.now.number c.args.there.now.address c.args.terms.now) c.unwrap-outcome.result c.self.invariant here c.step.ensures.id c.step.ensures.address step (λ m. refl)

pub returns-clause-joined : goal.returns-clause-joined
returns-clause-joined c = λ d h.
    let ds = c.self.inside.devices.items in
    let lt : c.args.here.now.place < length ds = subst (λ (w : World). c.args.here.now.place < length w.devices) (sym c.self.view_is) c.requires.here in
    let here : slice_get ds c.args.here.now.place ≡ Some c.index_mut.result.now = slice_get_read ds (length ds) c.args.here.now.place c.index_mut.result.now refl lt c.index_mut.ensures.value in
    let step : device_step c.index_mut.result.now (event.Connect c.args.end.now c.args.there.now.number c.args.there.now.address c.args.terms.now) ≡ record { device = c.step.new.self; outcome = c.unwrap-outcome.result } = search rules in
    joined_makes _ c.args.self.now _ c.args.here.now.place c.index_mut.result.now c.step.new.self d
    (event.Connect c.args.end.now c.args.there.now.number c.args.there.now.address c.args.terms.now) c.unwrap-outcome.result c.self.view_is refl here step h

pub returns-clause-ids : goal.returns-clause-ids
returns-clause-ids c = subst (λ (w : World). HaveOwnIds w.devices) c.self.view_is c.self.invariant.ids
