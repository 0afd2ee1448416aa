-- What the step did is done to the parts; it carries nothing off.
use Rattle.std.proofs.Common.{◌≡◌, ◌<◌, ◌+◌, ◌∙◌, ap, sym, subst, slice_get, Some, true, is_some, refl, length}
use Rattle.std.proofs.lemmas.Option.{slice_get_read}
use Rattle.rdma_types.specs.declared.answers.Answer.TheVariants as answer
use Rattle.protocol.specs.DeviceStep.{device_step}
use Rattle.protocol.specs.Fabric.{forgetting, kept_flight, sending}
use Rattle.protocol.specs.State.{Flight, World}
use Rattle.protocol.specs.WorldStep.{with_taken}
use Rattle.protocol.specs.declared.events.Event.{Event}
use Rattle.protocol.specs.declared.events.Event.TheVariants as event
use Rattle.protocol.specs.declared.images.Outcome.{Outcome}
use Rattle.device_core.specs.Done.{arrived}
use Rattle.world_core.proofs.Delivering.{delivered-at}
use Rattle.world_core.proofs.Networks.{numbered_arrival}
use Rattle.world_core.proofs.Stepping.{answered_all, parts_after, parts_same}
use Rattle.world_core.proofs.Places.{some_there}
use Rattle.world_core.proofs.world.World.arrive.Goals as goal

pub invariant_of-self-2 : goal.invariant_of-self-2
invariant_of-self-2 c =
    let ds = c.self.inside.devices.items in
    let x = c.index_mut-device.result.now in
    let o : Outcome = arrived c.in_ok-took.took c.reach.new.draft in
    let lt : c.args.place < length ds = subst (λ (w : World). c.args.place < length w.devices) (sym c.self.view_is) c.requires.place in
    let here : slice_get ds c.args.place ≡ Some x = slice_get_read ds (length ds) c.args.place x refl lt c.index_mut-device.ensures.value in
    let step : (f : Flight) → kept_flight c.self.inside.fabric c.args.k ≡ Some f → device_step x (event.Arrive f.from f.bytes) ≡ record { device = c.reach.new.device; outcome = o } = c.in_ok-took.ensures.ok in
    let kept : is_some (kept_flight c.self.inside.fabric c.args.k) ≡ true = ap (λ (w : World). is_some (kept_flight w.sent c.args.k)) c.self.view_is ∙ c.requires.kept in
    let f : (f : Flight) × (kept_flight c.self.inside.fabric c.args.k ≡ Some f) = some_there _ kept in
    parts_same _ _ _ _ _ _ refl
    (parts_after _ _ _ _ ds c.self.inside.stops.carried c.args.place x c.reach.new.device (event.Arrive f.0.from f.0.bytes) o c.self.invariant here c.reach.ensures.same.0 c.reach.ensures.same.1 (step f.0 f.1) (λ m. refl))

pub returns-clause-ok : goal.returns-clause-ok
returns-clause-ok c = λ f d kept h.
    let ds = c.self.inside.devices.items in
    let x = c.index_mut-device.result.now in
    let draft = c.reach.new.draft in
    let e : Event = event.Arrive f.from f.bytes in
    let lt : c.args.place < length ds = subst (λ (w : World). c.args.place < length w.devices) (sym c.self.view_is) c.requires.place in
    let here : slice_get ds c.args.place ≡ Some x = slice_get_read ds (length ds) c.args.place x refl lt c.index_mut-device.ensures.value in
    answered_all _ (with_taken c.args.self.now c.args.k) _ c.args.place d x c.reach.new.device e (answer.Took c.in_ok-took.took 0 (length draft)) draft (answer.Took c.in_ok-took.took c.first_number-first.result c.len-count.result) c.address-address.result c.next.result
    (ap (λ (w : World). with_taken w c.args.k) c.self.view_is) c.self.invariant.ids here
    (c.in_ok-took.ensures.ok f (ap (λ (w : World). kept_flight w.sent c.args.k) c.self.view_is ∙ kept)) c.reach.ensures.same.0
    refl c.address-address.ensures
    (c.send_draft.ensures.sent ∙ ap (λ s. forgetting (sending s c.address-address.result draft)) c.took.ensures.taken)
    refl refl (c.next.ensures.number ∙ ap (λ s. length s + 1) c.took.ensures.taken)
    (numbered_arrival c.in_ok-took.took c.next.result (length draft) c.first_number-first.result c.len-count.result c.len-count.ensures c.first_number-first.ensures) h

pub returns-clause-touched : goal.returns-clause-touched
returns-clause-touched c = λ f d kept h.
    let ds = c.self.inside.devices.items in
    let x = c.index_mut-device.result.now in
    let lt : c.args.place < length ds = subst (λ (w : World). c.args.place < length w.devices) (sym c.self.view_is) c.requires.place in
    let here : slice_get ds c.args.place ≡ Some x = slice_get_read ds (length ds) c.args.place x refl lt c.index_mut-device.ensures.value in
    delivered-at _ c.args.self.now _ c.args.place d x c.reach.new.device f c.self.view_is c.self.invariant.ids here c.reach.ensures.same.0
    (c.reach.ensures.touched f (ap (λ (w : World). kept_flight w.sent c.args.k) c.self.view_is ∙ kept)) refl refl refl h

pub reach-requires-clause-found : goal.reach-requires-clause-found
reach-requires-clause-found c = λ f kept.
    let ds = c.self.inside.devices.items in
    let x = c.index_mut-device.result.now in
    let lt : c.args.place < length ds = subst (λ (w : World). c.args.place < length w.devices) (sym c.self.view_is) c.requires.place in
    let here : slice_get ds c.args.place ≡ Some x = slice_get_read ds (length ds) c.args.place x refl lt c.index_mut-device.ensures.value in
    c.requires.found f x (ap (λ (w : World). kept_flight w.sent c.args.k) (sym c.self.view_is) ∙ kept) (ap (λ (w : World). slice_get w.devices c.args.place) (sym c.self.view_is) ∙ here)

pub returns-in_err-took-clause-never_out_of_memory : goal.returns-in_err-took-clause-never_out_of_memory
returns-in_err-took-clause-never_out_of_memory c = λ nothing.
    let ds = c.self.inside.devices.items in
    let x = c.index_mut-device.result.now in
    let lt : c.args.place < length ds = subst (λ (w : World). c.args.place < length w.devices) (sym c.self.view_is) c.requires.place in
    let here : slice_get ds c.args.place ≡ Some x = slice_get_read ds (length ds) c.args.place x refl lt c.index_mut-device.ensures.value in
    let there = c.in_err-took.ensures.never_out_of_memory (λ f kept.
    nothing f x (ap (λ (w : World). kept_flight w.sent c.args.k) (sym c.self.view_is) ∙ kept) (ap (λ (w : World). slice_get w.devices c.args.place) (sym c.self.view_is) ∙ here)) in
    absurd (cc)
