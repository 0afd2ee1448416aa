-- What the step did is done to the parts.
use Rattle.std.proofs.Common.{◌≡◌, ◌<◌, ◌+◌, ◌∙◌, ◌++◌, ap, sym, subst, slice_get, Some, refl, length, reverse}
use Rattle.std.proofs.lemmas.Option.{slice_get_read}
use Rattle.std.proofs.Math.ListN.{set}
use Rattle.std.specs.Prelude.{IfOk, OnErr, None}
use Rattle.protocol.specs.Refusals.{refusal_of}
use Rattle.protocol.specs.State.{Device, World}
use Rattle.protocol.specs.WorldStep.{runs}
use Rattle.world_core.specs.Kept.{Makes}
use Rattle.world_core.specs.Places.{HaveOwnIds, images_of, names_of}
use Rattle.world_core.proofs.Stepping.{after_room, due_lacks, due_makes, homes_noted, parts_after, parts_carry, parts_same, ran_all}
use Rattle.world_core.proofs.Places.{read_set}
use Rattle.world_core.proofs.Worlds.{read_device}
use Rattle.world_core.proofs.world.World.run_moving.Goals as goal

pub invariant_of-self-in-Ok : goal.invariant_of-self-in-Ok
invariant_of-self-in-Ok c =
    let ds = c.self.inside.devices.items in
    let lt : c.args.place < length ds = subst (λ (w : World). c.args.place < length w.devices) (sym c.self.view_is) c.requires.place in
    let here : slice_get ds c.args.place ≡ Some c.index_mut.result.now = slice_get_read ds (length ds) c.args.place c.index_mut.result.now refl lt c.index_mut.ensures.value in
    let devices : c.as_slice.result.now ≡ set ds c.args.place c.step.new.self = c.as_slice.ensures.value in
    parts_same _ _ _ _ _ _ refl
    (parts_carry _ _ _ _ c.self.inside.stops.carried c.carry.new.stops.carried c.in-Ok.field-0.image
    (parts_after _ _ _ _ ds c.self.inside.stops.carried c.args.place c.index_mut.result.now c.step.new.self c.args.event.now c.in-Ok.field-0 c.self.invariant here c.step.ensures.id c.step.ensures.address c.in-Ok.ensures.ok
    (homes_noted _ _ _ _ _ _ _ c.note_home.ensures c.moved_context.ensures devices c.make_room.ensures.homes))
    (c.carry.ensures.carried ∙ ap (λ xs. xs ++ images_of c.in-Ok.field-0.image) c.make_room.ensures.carried) c.in-Ok.ensures.image)

pub returns-in-Ok-clause-ok : goal.returns-in-Ok-clause-ok
returns-in-Ok-clause-ok c = λ d h.
    let ds = c.self.inside.devices.items in
    let lt : c.args.place < length ds = subst (λ (w : World). c.args.place < length w.devices) (sym c.self.view_is) c.requires.place in
    let here : slice_get ds c.args.place ≡ Some c.index_mut.result.now = slice_get_read ds (length ds) c.args.place c.index_mut.result.now refl lt c.index_mut.ensures.value in
    let there : c.index-in-Ok.result.now ≡ c.step.new.self = read_set ds c.args.place c.step.new.self c.index-in-Ok.result.now lt c.index-in-Ok.ensures in
    ran_all _ c.args.self.now _ c.args.place d c.index_mut.result.now c.step.new.self c.args.event.now c.in-Ok.field-0 c.send_outcome-answer.result c.address-address.result (length c.self.inside.fabric + 1)
    c.self.view_is c.self.invariant.ids here c.in-Ok.ensures.ok c.step.ensures.id
    refl (c.address-address.ensures ∙ ap (λ x. x.address) there) c.send_outcome-answer.ensures.sent
    (c.carry.ensures.carried ∙ ap (λ xs. xs ++ images_of c.in-Ok.field-0.image) c.make_room.ensures.carried)
    (c.carry.ensures.stopped ∙ ap (λ xs. reverse (names_of c.in-Ok.field-0.image) ++ xs) c.make_room.ensures.stopped)
    refl c.send_outcome-answer.ensures.answer h

pub returns-then-is_err-clause-ok : goal.returns-then-is_err-clause-ok
returns-then-is_err-clause-ok c =
    let w = c.args.self.now in
    let new : World = record { devices = c.self.inside.devices.items; sent = c.self.inside.fabric; carried = c.make_room.new.stops.carried; stopped = c.make_room.new.stops.stopped } in
    let same : new ≡ w = after_room _ w new c.self.view_is refl refl c.make_room.ensures.carried c.make_room.ensures.stopped in
    subst (λ r. IfOk r (λ a. (d : Device) → slice_get w.devices c.args.place ≡ Some d → Makes (runs w d c.args.event.now) a new)) (sym c.refused_or_lacking.ensures)
    (due_makes c.move_refusal.result w new c.args.place c.args.event.now (subst (λ (x : World). HaveOwnIds x.devices) c.self.view_is c.self.invariant.ids) c.requires.ready.kept same
    (λ d h. c.move_refusal.ensures ∙ ap (λ x. refusal_of x c.args.event.now) (read_device _ w c.args.place c.index.result.now d c.self.view_is h c.index.ensures)))

pub returns-then-is_err-clause-refused_first : goal.returns-then-is_err-clause-refused_first
returns-then-is_err-clause-refused_first c =
    let w = c.args.self.now in
    subst (λ r. OnErr r ((d : Device) → slice_get w.devices c.args.place ≡ Some d → refusal_of d c.args.event.now ≡ None)) (sym c.refused_or_lacking.ensures)
    (due_lacks c.move_refusal.result w c.args.place c.args.event.now
    (λ d h. c.move_refusal.ensures ∙ ap (λ x. refusal_of x c.args.event.now) (read_device _ w c.args.place c.index.result.now d c.self.view_is h c.index.ensures)))

pub returns-in-Err-clause-refused_first : goal.returns-in-Err-clause-refused_first
returns-in-Err-clause-refused_first c = λ d h.
    subst (λ x. refusal_of x c.args.event.now ≡ None) (read_device _ c.args.self.now c.args.place c.index_mut.result.now d c.self.view_is h c.index_mut.ensures.value) c.in-Err.ensures.refused_first
