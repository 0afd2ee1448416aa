-- What the restore did is done to the parts, and the image is carried no more where it is done.
use Rattle.std.proofs.Common.{◌≡◌, ◌<◌, ◌+◌, ◌∙◌, ap, sym, subst, slice_get, get_or, Some, None, refl, length, inl, inr}
use Rattle.std.specs.Prelude.{IfOk, OnErr}
use Rattle.std.proofs.lemmas.Option.{slice_get_read}
use Rattle.std.proofs.Math.ListN.{set}
use Rattle.protocol.specs.DeviceStep as device
use Rattle.protocol.specs.DeviceStep.{device_step}
use Rattle.protocol.specs.Refusals.{refusal_of}
use Rattle.protocol.specs.State.{Device, World}
use Rattle.protocol.specs.declared.images.ContextImage.{ContextImage}
use Rattle.protocol.specs.WorldStep.{is_done, runs}
use Rattle.protocol.specs.declared.events.Event.TheVariants as event
use Rattle.law_settling.proofs.steps.Bare as handing
use Rattle.world_core.specs.Kept.{Makes}
use Rattle.world_core.specs.Places.{HaveOwnIds}
use Rattle.world_core.specs.Sites.{put_back}
use Rattle.world_core.proofs.Lacking.{holds_at_err}
use Rattle.world_core.proofs.Restoring.{due_not_put_back, due_puts_back, put_makes}
use Rattle.world_core.proofs.Stepping.{bare_carried, bare_stopped, homes_noted, not_done, parts_after, parts_less, parts_same, ran_all}
use Rattle.world_core.proofs.Places.{read_set, same_thing}
use Rattle.world_core.proofs.Worlds.{read_device, read_image}
use Rattle.world_core.proofs.world.World.put_back.Goals as goal
use Rattle.world_core.proofs.world.World.put_back.Goals.{in-Done, in_default}

pub invariant_of-self-in-Done : goal.invariant_of-self-in-Done
invariant_of-self-in-Done c =
    let ds = c.self.inside.devices.items in
    let lt : c.args.place < length ds = subst (λ (w : World). c.args.place < length w.devices) (sym c.self.view_is) c.requires.place in
    let here : slice_get ds c.args.place ≡ Some c.index_mut.result.now = slice_get_read ds (length ds) c.args.place c.index_mut.result.now refl lt c.index_mut.ensures.value in
    let devices : c.as_slice.result.now ≡ set ds c.args.place c.restore.new.self = c.as_slice.ensures.value in
    parts_same _ _ _ _ _ _ refl
    (parts_less _ _ _ _ c.self.inside.stops.carried c.remove.new.self.carried c.args.spot
    (parts_after _ _ _ _ ds c.self.inside.stops.carried c.args.place c.index_mut.result.now c.restore.new.self (event.Restore c.index-images-spot.result) c.in_ok-outcome.outcome c.self.invariant here c.restore.ensures.id c.restore.ensures.address c.in_ok-outcome.ensures.ok
    (homes_noted (Some c.index-images-spot.result.name) _ _ _ _ _ _ c.note_home.ensures refl devices c.reserve.ensures.entries)) c.remove.ensures.carried)

pub invariant_of-self-in_default : goal.invariant_of-self-in_default
invariant_of-self-in_default c =
    let ds = c.self.inside.devices.items in
    let lt : c.args.place < length ds = subst (λ (w : World). c.args.place < length w.devices) (sym c.self.view_is) c.requires.place in
    let here : slice_get ds c.args.place ≡ Some c.index_mut.result.now = slice_get_read ds (length ds) c.args.place c.index_mut.result.now refl lt c.index_mut.ensures.value in
    let devices : c.as_slice.result.now ≡ set ds c.args.place c.restore.new.self = c.as_slice.ensures.value in
    parts_same _ _ _ _ _ _ refl
    (parts_after _ _ _ _ ds c.self.inside.stops.carried c.args.place c.index_mut.result.now c.restore.new.self (event.Restore c.index-images-spot.result) c.in_ok-outcome.outcome c.self.invariant here c.restore.ensures.id c.restore.ensures.address c.in_ok-outcome.ensures.ok
    (homes_noted (Some c.index-images-spot.result.name) _ _ _ _ _ _ c.note_home.ensures refl devices c.reserve.ensures.entries))

pub returns-clause-ok : goal.returns-clause-ok
returns-clause-ok c = λ d x h k.
    let ds = c.self.inside.devices.items in
    let is = c.self.inside.stops.carried in
    let o = c.in_ok-outcome.outcome in
    let lt : c.args.place < length ds = subst (λ (w : World). c.args.place < length w.devices) (sym c.self.view_is) c.requires.place in
    let here : slice_get ds c.args.place ≡ Some c.index_mut.result.now = slice_get_read ds (length ds) c.args.place c.index_mut.result.now refl lt c.index_mut.ensures.value in
    let there : c.index-2.result.now ≡ c.restore.new.self = read_set ds c.args.place c.restore.new.self c.index-2.result.now lt c.index-2.ensures in
    let within : c.args.spot < length is = subst (λ (w : World). c.args.spot < length w.carried) (sym c.self.view_is) c.requires.spot in
    let image : c.index-images-spot.result ≡ x = same_thing c.index-images-spot.result x (sym (slice_get_read is (length is) c.args.spot c.index-images-spot.result refl within (c.index-images-spot.is ∙ ap (λ xs. get_or xs c.args.spot c.index-images-spot.result) c.images.ensures)) ∙ (ap (λ (w : World). slice_get w.carried c.args.spot) c.self.view_is ∙ k)) in
    let step : device_step c.index_mut.result.now (event.Restore x) ≡ record { device = c.restore.new.self; outcome = o } = subst (λ y. device_step c.index_mut.result.now (event.Restore y) ≡ record { device = c.restore.new.self; outcome = o }) image c.in_ok-outcome.ensures.ok in
    let bare : o.image ≡ None = sym (ap (λ (s : device.Step). s.outcome.image) step) ∙ handing.bare c.index_mut.result.now (event.Restore x) tt in
    let mid : World = record { devices = set ds c.args.place c.restore.new.self; sent = c.send_outcome-answer.new.fabric; carried = is; stopped = c.self.inside.stops.stopped } in
    let made : Makes (runs c.args.self.now d (event.Restore x)) c.send_outcome-answer.result mid =
    ran_all _ c.args.self.now mid c.args.place d c.index_mut.result.now c.restore.new.self (event.Restore x) o c.send_outcome-answer.result c.address-address.result (length c.self.inside.fabric + 1)
    c.self.view_is c.self.invariant.ids here step c.restore.ensures.id
    refl (c.address-address.ensures ∙ ap (λ y. y.address) there) c.send_outcome-answer.ensures.sent
    (bare_carried is o.image bare) (bare_stopped c.self.inside.stops.stopped o.image bare)
    refl c.send_outcome-answer.ensures.answer h in
    put_makes mid c.match-answer.self c.args.spot (runs c.args.self.now d (event.Restore x)) c.send_outcome-answer.result made
    (elim c.match-answer.branch [
      | in-Done z ↦ inl (ap (λ a. is_done a) z.in-Done.is, z.self-is ∙ (ap (λ xs. record mid { carried = z.remove.new.self.carried; stopped = xs }) z.remove.ensures.stopped ∙ ap (λ xs. record mid { carried = xs }) z.remove.ensures.carried))
      | in_default z ↦ inr (not_done c.send_outcome-answer.result z.in_default.not-Done, z.self-is)
    ])

pub returns-then-is_err-clause-ok : goal.returns-then-is_err-clause-ok
unfolding refusal_of
returns-then-is_err-clause-ok c =
    let w = c.args.self.now in
    let new : World = record { devices = c.self.inside.devices.items; sent = c.self.inside.fabric; carried = c.self.inside.stops.carried; stopped = c.self.inside.stops.stopped } in
    subst (λ r. IfOk r (λ a. (d : Device) → (x : ContextImage) → slice_get w.devices c.args.place ≡ Some d → slice_get w.carried c.args.spot ≡ Some x → Makes (put_back (runs w d (event.Restore x)) c.args.spot) a new)) (sym c.refused_or_lacking.ensures)
    (due_puts_back c.restore_refusal.result w new c.args.place c.args.spot (subst (λ (x : World). HaveOwnIds x.devices) c.self.view_is c.self.invariant.ids) c.requires.ready.kept c.self.view_is
    (λ d x h k. c.restore_refusal.ensures
    ∙ (ap (λ y. refusal_of y (event.Restore c.index-images-spot.result)) (read_device _ w c.args.place c.index.result.now d c.self.view_is h c.index.ensures)
    ∙ ap (λ i. refusal_of d (event.Restore i)) (read_image _ w c.args.spot c.images.result.now c.index-images-spot.result x c.self.view_is c.images.ensures k c.index-images-spot.is))))

pub returns-then-is_err-clause-refused_first : goal.returns-then-is_err-clause-refused_first
unfolding refusal_of
returns-then-is_err-clause-refused_first c =
    let w = c.args.self.now in
    subst (λ r. OnErr r ((d : Device) → (x : ContextImage) → slice_get w.devices c.args.place ≡ Some d → slice_get w.carried c.args.spot ≡ Some x → refusal_of d (event.Restore x) ≡ None)) (sym c.refused_or_lacking.ensures)
    (due_not_put_back c.restore_refusal.result w c.args.place c.args.spot
    (λ d x h k. c.restore_refusal.ensures
    ∙ (ap (λ y. refusal_of y (event.Restore c.index-images-spot.result)) (read_device _ w c.args.place c.index.result.now d c.self.view_is h c.index.ensures)
    ∙ ap (λ i. refusal_of d (event.Restore i)) (read_image _ w c.args.spot c.images.result.now c.index-images-spot.result x c.self.view_is c.images.ensures k c.index-images-spot.is))))

pub returns-in_err-outcome-clause-refused_first : goal.returns-in_err-outcome-clause-refused_first
returns-in_err-outcome-clause-refused_first c =
    let w = c.args.self.now in
    holds_at_err c.from_residual.result (λ d x h k.
    subst (λ y. refusal_of y (event.Restore x) ≡ None) (read_device _ w c.args.place c.index_mut.result.now d c.self.view_is h c.index_mut.ensures.value)
    (subst (λ i. refusal_of c.index_mut.result.now (event.Restore i) ≡ None) (read_image _ w c.args.spot c.images.result.now c.index-images-spot.result x c.self.view_is c.images.ensures k c.index-images-spot.is) c.in_err-outcome.ensures.refused_first))
