-- What the step did is done to the parts; it carries nothing off.
use Rattle.std.proofs.Common.{◌≡◌, ◌<◌, ◌+◌, ◌∙◌, ap, sym, subst, slice_get, Some, None, refl, length}
use Rattle.std.specs.Prelude.{bytes_eq}
use Rattle.std.proofs.lemmas.Option.{slice_get_read}
use Rattle.indexmap.specs.IndexMap.{get}
use Rattle.std.proofs.Math.ListN.{set}
use Rattle.protocol.specs.DeviceStep as device
use Rattle.protocol.specs.Refusals.{refusal_of}
use Rattle.protocol.specs.State.{World}
use Rattle.law_settling.proofs.steps.Bare as handing
use Rattle.world_core.specs.Homes.{looked_up}
use Rattle.world_core.proofs.Lacking.{no_stop, takes_none_at}
use Rattle.world_core.proofs.Stepping.{bare_carried, bare_stopped, parts_after, parts_same, ran_all}
use Rattle.world_core.proofs.Places.{read_set}
use Rattle.world_core.proofs.Worlds.{read_device}
use Rattle.world_core.proofs.world.World.run.Goals as goal

pub invariant_of-self : goal.invariant_of-self
invariant_of-self c =
    let ds = c.self.inside.devices.items in
    let lt : c.args.place < length ds = subst (λ (w : World). c.args.place < length w.devices) (sym c.self.view_is) c.requires.place in
    let here : slice_get ds c.args.place ≡ Some c.index_mut.result.now = slice_get_read ds (length ds) c.args.place c.index_mut.result.now refl lt c.index_mut.ensures.value in
    parts_same _ _ _ _ _ _ refl
    (parts_after _ _ _ _ ds c.self.inside.stops.carried c.args.place c.index_mut.result.now c.step.new.self c.args.event.now c.in-Ok.field-0 c.self.invariant here c.step.ensures.id c.step.ensures.address c.in-Ok.ensures.ok
    (λ m. sym (ap (λ o. looked_up o (set ds c.args.place c.step.new.self) (λ n. get bytes_eq c.self.inside.homes n) m) c.requires.stays)))

pub returns-in-Ok-clause-ok : goal.returns-in-Ok-clause-ok
returns-in-Ok-clause-ok c = λ d h.
    let ds = c.self.inside.devices.items in
    let e = c.args.event.now in
    let o = c.in-Ok.field-0 in
    let lt : c.args.place < length ds = subst (λ (w : World). c.args.place < length w.devices) (sym c.self.view_is) c.requires.place in
    let here : slice_get ds c.args.place ≡ Some c.index_mut.result.now = slice_get_read ds (length ds) c.args.place c.index_mut.result.now refl lt c.index_mut.ensures.value in
    let there : c.index.result.now ≡ c.step.new.self = read_set ds c.args.place c.step.new.self c.index.result.now lt c.index.ensures in
    let bare : o.image ≡ None = sym (ap (λ (s : device.Step). s.outcome.image) c.in-Ok.ensures.ok) ∙ handing.bare c.index_mut.result.now e (no_stop e c.requires.stays) in
    ran_all _ c.args.self.now _ c.args.place d c.index_mut.result.now c.step.new.self e o c.send_outcome.result c.address-address.result (length c.self.inside.fabric + 1)
    c.self.view_is c.self.invariant.ids here c.in-Ok.ensures.ok c.step.ensures.id
    refl (c.address-address.ensures ∙ ap (λ x. x.address) there) c.send_outcome.ensures.sent
    (bare_carried c.self.inside.stops.carried o.image bare) (bare_stopped c.self.inside.stops.stopped o.image bare)
    refl c.send_outcome.ensures.answer h

pub returns-clause-never_out_of_memory : goal.returns-clause-never_out_of_memory
returns-clause-never_out_of_memory c = λ none. c.in-Err.ensures.never_out_of_memory (takes_none_at c.index_mut.result.now c.args.event.now none)

pub returns-clause-refused_first : goal.returns-clause-refused_first
returns-clause-refused_first c = λ d h.
    subst (λ x. refusal_of x c.args.event.now ≡ None) (read_device _ c.args.self.now c.args.place c.index_mut.result.now d c.self.view_is h c.index_mut.ensures.value) c.in-Err.ensures.refused_first
