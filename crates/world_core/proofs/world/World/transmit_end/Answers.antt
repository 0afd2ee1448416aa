-- What the step did is done to the parts; it carries nothing off.
use Rattle.std.proofs.Common.{◌≡◌, ◌<◌, ◌+◌, ◌∙◌, ap, sym, subst, slice_get, Some, None, refl, length}
use Rattle.std.proofs.lemmas.Option.{slice_get_read}
use Rattle.rdma_types.specs.declared.names.ObjName.{ObjName}
use Rattle.protocol.specs.Fabric.{forgetting}
use Rattle.protocol.specs.State.{World}
use Rattle.protocol.specs.WorldStep.{numbered}
use Rattle.protocol.specs.declared.events.Event.TheVariants as event
use Rattle.protocol.specs.declared.images.Outcome.{Outcome}
use Rattle.context_core.specs.Sending.{send_answer}
use Rattle.device_core.specs.Finding.{IsAt}
use Rattle.world_core.proofs.Stepping.{answered_all, parts_after, parts_same}
use Rattle.world_core.proofs.Worlds.{read_device}
use Rattle.world_core.proofs.world.World.transmit_end.Goals as goal

pub invariant_of-self-2 : goal.invariant_of-self-2
invariant_of-self-2 c =
    let ds = c.self.inside.devices.items in
    let lt : c.args.place < length ds = subst (λ (w : World). c.args.place < length w.devices) (sym c.self.view_is) c.requires.place in
    let here : slice_get ds c.args.place ≡ Some c.index_mut-device.result.now = slice_get_read ds (length ds) c.args.place c.index_mut-device.result.now refl lt c.index_mut-device.ensures.value in
    let o : Outcome = record { answer = send_answer c.in_ok-row.row; sent = c.transmit_at.new.draft; image = None } in
    let at : (n : ObjName) × IsAt c.index_mut-device.result.now n c.args.at = c.requires.at c.index_mut-device.result.now (ap (λ (w : World). slice_get w.devices c.args.place) (sym c.self.view_is) ∙ here) in
    parts_same _ _ _ _ _ _ refl
    (parts_after _ _ _ _ ds c.self.inside.stops.carried c.args.place c.index_mut-device.result.now c.transmit_at.new.self (event.Transmit at.0) o c.self.invariant here c.transmit_at.ensures.id c.transmit_at.ensures.address (c.in_ok-row.ensures.ok at.0 at.1) (λ m. refl))

pub returns-clause-ok : goal.returns-clause-ok
returns-clause-ok c = λ d o h at.
    let ds = c.self.inside.devices.items in
    let lt : c.args.place < length ds = subst (λ (w : World). c.args.place < length w.devices) (sym c.self.view_is) c.requires.place in
    let here : slice_get ds c.args.place ≡ Some c.index_mut-device.result.now = slice_get_read ds (length ds) c.args.place c.index_mut-device.result.now refl lt c.index_mut-device.ensures.value in
    let same : c.index_mut-device.result.now ≡ d = read_device _ c.args.self.now c.args.place c.index_mut-device.result.now d c.self.view_is h c.index_mut-device.ensures.value in
    answered_all _ c.args.self.now _ c.args.place d c.index_mut-device.result.now c.transmit_at.new.self (event.Transmit o) (send_answer c.in_ok-row.row) c.transmit_at.new.draft (numbered (length c.args.self.now.sent + 1) (send_answer c.in_ok-row.row)) c.address-address.result (length c.self.inside.fabric + 1)
    c.self.view_is c.self.invariant.ids here (c.in_ok-row.ensures.ok o (subst (λ x. IsAt x o c.args.at) (sym same) at)) c.transmit_at.ensures.id
    refl c.address-address.ensures c.send_draft.ensures.sent
    refl refl refl (ap (λ (w : World). numbered (length w.sent + 1) (send_answer c.in_ok-row.row)) (sym c.self.view_is)) h

pub transmit_at-requires : goal.transmit_at-requires
transmit_at-requires c =
    let ds = c.self.inside.devices.items in
    let lt : c.args.place < length ds = subst (λ (w : World). c.args.place < length w.devices) (sym c.self.view_is) c.requires.place in
    let here : slice_get ds c.args.place ≡ Some c.index_mut-device.result.now = slice_get_read ds (length ds) c.args.place c.index_mut-device.result.now refl lt c.index_mut-device.ensures.value in
    c.requires.at c.index_mut-device.result.now (ap (λ (w : World). slice_get w.devices c.args.place) (sym c.self.view_is) ∙ here)

pub send_draft-requires-clause-kept : goal.send_draft-requires-clause-kept
send_draft-requires-clause-kept c = subst (λ (w : World). forgetting w.sent ≡ w.sent) (sym c.self.view_is) c.requires.ready.kept
