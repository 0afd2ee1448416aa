-- One device after another.
use Rattle.std.proofs.Common.{◌≡◌, ◌∙◌, ◌≤◌, ◌<◌, ◌++◌, refl, sym, ap, subst, arith, length, Some, slice_get}
use Rattle.std.specs.Prelude.{flat_map}
use Rattle.std.proofs.lemmas.List.{take_all}
use Rattle.std.proofs.lemmas.Option.{slice_get_read}
use Rattle.protocol.specs.State.{World}
use Rattle.device_core.specs.Readings.{live_ends}
use Rattle.world_core.specs.Lives.{live_list}
use Rattle.world_core.proofs.LiveEnds.{flat-more}
use Rattle.world_core.proofs.world.World.live_ends.Goals as goal

pub loop-place-preserved : goal.loop-place-preserved
loop-place-preserved c =
    let ds = c.self.inside.devices.items in
    let i = c.loop-place.place in
    let within : i < length ds = omega (arith, c.loop-place-test.true, c.len-place-end.ensures) in
    let here : slice_get ds i ≡ Some c.index.result.now = slice_get_read ds (length ds) i c.index.result.now refl within c.index.ensures in
    let at : slice_get c.args.self.now.devices i ≡ Some c.index.result.now = ap (λ (w : World). slice_get w.devices i) (sym c.self.view_is) ∙ here in
    c.in_ok-push_ends.ensures ∙ (ap (λ xs. xs ++ live_ends c.index.result.now) c.loop-place.invariant ∙ flat-more live_ends c.args.self.now.devices i c.index.result.now at)

pub returns : goal.returns
unfolding live_list
returns c =
    let w = c.args.self.now in
    let past : length c.self.inside.devices.items ≤ c.loop-place.place = omega (arith, c.loop-place-test.false, c.len-place-end.ensures) in
    c.new.ensures ∙ (c.loop-place.invariant ∙ ap (flat_map live_ends) (take_all c.loop-place.place w.devices (subst (λ (v : World). length v.devices ≤ c.loop-place.place) c.self.view_is past)))
